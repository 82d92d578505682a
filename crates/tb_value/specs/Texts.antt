-- The texts and bytes among values.
use Rattle.std.specs.Prelude.{◌≡◌, ℕ, true, List, Option, IfSome}
use Rattle.std.specs.Str.{is_utf8}

-- Null, or the UTF-8 of a text
abbrev pub IsUtf8Row : Option (List ℕ) → Type 0
IsUtf8Row o = IfSome o (λ t. is_utf8 t ≡ true)
