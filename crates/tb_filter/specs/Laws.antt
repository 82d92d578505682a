-- What is true of tests.
use Rattle.std.specs.Prelude.{◌≡◌, ◌≢◌, true}
use Rattle.std.specs.Bool.{Decides}
use Rattle.tb_value.specs.Promise.Datum.{Datum, null}
use Rattle.tb_value.specs.Promise.Kind.{Kind}
use Rattle.tb_value.specs.Promise.SameKind.{is_key}
use Rattle.tb_value.specs.Promise.Typed.{HasType}
use Rattle.tb_filter.specs.Promise.Filtered.{is_key_value}

-- A value is a key value of a type exactly where it is there, is of the type, and the type has keys.
abbrev pub KeyValues : Type 0
KeyValues = (t : Kind) (v : Datum)
    → Decides (is_key_value t v) ((is_key t ≡ true) × (v ≢ null) × HasType t v)
