-- The texts and bytes among values.
use Rattle.std.specs.Prelude.{ℕ, List, Option, Some, None}
use Rattle.tb_value.specs.Promise.Datum.{Datum}
use Rattle.tb_value.specs.Promise.Datum as value

-- the bytes of a text or of bytes; none of other values
abbrev pub text_of : Datum → Option (List ℕ)
text_of (value.string s) = Some s
text_of (value.binary s) = Some s
text_of _ = None
