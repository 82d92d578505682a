-- The fields of texts.
use Rattle.std.specs.Prelude.{◌<◌, ◌^◌, ℕ, List, [], ◌∷◌, length, Option, Some, None}
use Rattle.tb_value.specs.Promise.Datum.{Datum, string, binary}
use Rattle.tb_rowkey.specs.Promise.RowKey.{text_code}

-- 0 where there is no text; else 1, and then the text
abbrev pub text_field : Option (List ℕ) → List ℕ
text_field None = 0 ∷ []
text_field (Some s) = 1 ∷ text_code s

-- a text or bytes that a field has room for, which are fewer than 2^32 bytes, or any other value
abbrev pub FitsField : Datum → Type 0
FitsField (string s) = length s < 2 ^ 32
FitsField (binary s) = length s < 2 ^ 32
FitsField _ = Unit {0}
