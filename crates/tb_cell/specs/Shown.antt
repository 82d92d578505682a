-- What contracts see of optional values.
use Rattle.std.specs.Prelude.{◌+◌, ◌-◌, ℕ, List, Option, Some, None, is_some, min}
use Rattle.std.specs.List.{prefix_len}
use Rattle.tb_value.specs.Promise.Datum.{Datum, null}

-- an optional value, Null where there is none
abbrev pub or_null : {N : Type 0} → (N → Datum) → Option N → Datum
or_null f None = null
or_null f (Some x) = f x

-- how many of so many rows from there on are values before the first Null
abbrev pub block_len : {N : Type 0} → List (Option N) → ℕ → ℕ → ℕ
block_len cells from count = min (from + count) (prefix_len is_some cells) - from
