-- The bytes of rows, one behind another.
use Rattle.std.specs.Prelude.{◌≡◌, ◌≤◌, ◌*◌, ◌-◌, ℕ, List, Result, IfOk, min}
use Rattle.std.specs.List.{flat_map, range_with_len}
use Rattle.std.specs.declared.vec.Vec.{Vec}
use Rattle.std.specs.declared.alloc.Global.{Global}
use Rattle.tb_value.specs.declared.error.OutOfMemory.{OutOfMemory}
use Rattle.tb_pieces.specs.declared.pieces.TheConstants.{ROWS_OF_A_PIECE}

-- the bytes of so many rows from this one on, where each has its own
abbrev pub rows_bytes : (ℕ → List ℕ) → ℕ → ℕ → List ℕ
rows_bytes row first n = flat_map row (range_with_len first n)

-- the bytes of the rows of piece p of so many rows
abbrev pub piece_bytes : (ℕ → List ℕ) → ℕ → ℕ → List ℕ
piece_bytes row height p =
    let first = p * ROWS_OF_A_PIECE in
    rows_bytes row first (min ROWS_OF_A_PIECE (height - first))

-- it may be asked for the rows from any number up to another
abbrev pub TakesRows : (ℕ → ℕ → Type 0) → ℕ → Type 0
TakesRows takes height = (start end : ℕ) → start ≤ end → end ≤ height → takes start end

-- bytes, or want of memory
abbrev pub Answer : Type 0
Answer = Result (Vec ℕ Global) OutOfMemory

-- and what it gives is the bytes of those rows
abbrev pub GivesRows : (ℕ → ℕ → Answer → Type 0) → (ℕ → List ℕ) → ℕ → Type 0
GivesRows gives row height =
    (start end : ℕ) (r : Answer) → start ≤ end → end ≤ height
    → gives start end r → IfOk r (λ v. v.items ≡ rows_bytes row start (end - start))
