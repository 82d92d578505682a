-- The values of a column of texts or of bytes.
use Rattle.std.specs.Prelude.{ℕ, List, Option, map}
use Rattle.tb_value.specs.Promise.Datum.{Datum, binary, string}
use Rattle.tb_value.specs.Promise.Kind.{Kind}
use Rattle.tb_value.specs.Promise.Kind as kind
use Rattle.tb_cell.specs.Shown.{or_null}

-- texts as values of type String, and as Binary of any other
abbrev pub text_values : Kind → List (Option (List ℕ)) → List Datum
text_values kind.string ts = map (or_null string) ts
text_values _ ts = map (or_null binary) ts
