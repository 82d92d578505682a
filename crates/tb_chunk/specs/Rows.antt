-- Which values rows name.
use Rattle.std.specs.Prelude.{◌<◌, ℕ, List, Option, Some, None, slice_index_or}
use Rattle.tb_value.specs.Promise.Datum.{Datum, null}

-- none, or one of n rows
abbrev pub IsRowOf : ℕ → Option ℕ → Type 0
IsRowOf n None = Unit {0}
IsRowOf n (Some i) = i < n

-- the value of a row, Null where there is no row
abbrev pub value_or_null : List Datum → Option ℕ → Datum
value_or_null vs None = null
value_or_null vs (Some r) = slice_index_or vs r null
