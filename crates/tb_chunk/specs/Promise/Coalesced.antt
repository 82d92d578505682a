-- Two lists of values, of which the second stands in where the first has none.
use Rattle.std.specs.Prelude.{if◌then◌else◌}
use Rattle.tb_value.specs.Promise.Datum.{Datum, is_null}

-- the first value, or the second where it is Null
abbrev pub or_else : Datum → Datum → Datum
or_else a b = (if is_null a then b else a)
