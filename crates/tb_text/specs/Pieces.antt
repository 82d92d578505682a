-- A text in pieces.
use Rattle.std.specs.Prelude.{ℕ, List, [], Option, Some, None}
use Rattle.std.specs.List.{flat_map}
use Rattle.std.specs.declared.vec.Vec.{Vec}
use Rattle.std.specs.declared.alloc.Global.{Global}

-- the bytes of pieces, one behind another
abbrev pub bytes_of : List (Vec ℕ Global) → List ℕ
bytes_of pieces = flat_map (λ (p : Vec ℕ Global). p.items) pieces

-- the bytes of a piece that there may be
abbrev pub bytes_in : Option (Vec ℕ Global) → List ℕ
bytes_in None = []
bytes_in (Some p) = p.items
