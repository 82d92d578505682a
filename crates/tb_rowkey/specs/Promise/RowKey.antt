-- Row keys: the bytes of a row's fields, one after another.
use Rattle.std.specs.Prelude.{ℕ, suc, Bool, true, false, ◌&&◌, ◌||◌, if◌then◌else◌, List, [], ◌∷◌, ◌++◌, length}
use Rattle.std.specs.Int.{bytes_high_first}
use Rattle.tb_value.specs.Promise.Datum.{Datum, null, boolean, int, string, binary, list, struct, is_present}
use Rattle.tb_value.specs.Promise.Kind.{Kind}
use Rattle.tb_rowkey.specs.Promise.Bytes.{width, whole_bytes}

abbrev pub bit : Bool → ℕ
bit true = 1
bit false = 0

-- the length in 4 bytes, and then the bytes
abbrev pub text_code : List ℕ → List ℕ
text_code s = bytes_high_first 4 (length s) ++ s

-- 0 of Null; else 1, and then what the field holds. A list or a struct is no key
abbrev pub field_code : Kind → Datum → List ℕ
field_code t null = 0 ∷ []
field_code t (boolean b) = 1 ∷ bit b ∷ []
field_code t (int z) = 1 ∷ whole_bytes (width t) z
field_code t (string s) = 1 ∷ text_code s
field_code t (binary s) = 1 ∷ text_code s
field_code t (list vs) = 1 ∷ []
field_code t (struct vs) = 1 ∷ []

-- the fields' bytes in order, of a row with these types
abbrev pub rowkey : List Kind → List Datum → List ℕ
rowkey (t ∷ ts) (f ∷ fs) = field_code t f ++ rowkey ts fs
rowkey _ _ = []

-- at each place p the field is present, or Nulls match there
abbrev pub has_key : (ℕ → Bool) → List Datum → Bool
has_key nulls [] = true
has_key nulls (f ∷ fs) = (is_present f || nulls 0) && has_key (λ p. nulls (suc p)) fs

-- Null where a field is Null at a place at which Nulls don't match
abbrev pub key_row : List Kind → (ℕ → Bool) → List Datum → Datum
key_row ts nulls fs = if has_key nulls fs then binary (rowkey ts fs) else null
