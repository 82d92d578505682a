-- Rows of key types, and when two of them match.
use Rattle.std.specs.Prelude.{ℕ, Bool, IsTrue, List, slice_index_or}
use Rattle.std.specs.List.{AllZip, list_all}
use Rattle.tb_value.specs.Promise.Datum.{Datum, null}
use Rattle.tb_value.specs.Promise.Kind.{Kind}
use Rattle.tb_value.specs.Promise.Pairs.{row_numbers}
use Rattle.tb_value.specs.Promise.Same.{agrees}
use Rattle.tb_value.specs.Promise.SameKind.{is_key}
use Rattle.tb_value.specs.Promise.Typed.{HasType}

-- a value of a key type
abbrev pub IsKeyOf : Kind → Datum → Type 0
IsKeyOf t f = IsTrue (is_key t) × HasType t f

-- one value of each key type
abbrev pub IsKeyRow : List Kind → List Datum → Type 0
IsKeyRow ts fs = AllZip IsKeyOf ts fs

-- the fields of two rows agree at each of n places
abbrev pub rows_meet : (ℕ → Bool) → ℕ → List Datum → List Datum → Bool
rows_meet nulls n fs gs = list_all
    (λ p. agrees (nulls p) (slice_index_or fs p null) (slice_index_or gs p null)) (row_numbers n)
