-- The value of a type that a JSON value stands for.
use Rattle.std.specs.Prelude.{ℕ, ℤ, List, length, nat_le, nat_lt, int_le, Bool, ◌&&◌, ◌||◌, if◌then◌else◌, Option, Some, None, option_map, option_and_then}
use Rattle.std.specs.List.{list_all}
use Rattle.std.specs.Result.{result_ok}
use Rattle.hex.specs.Hex.{decode_of}
use Rattle.serde_json.specs.Data.{Num, Data, null, boolean, number, string, array, object, Items, no_items, item}
use Rattle.serde_json.specs.Find.{as_integer}
use Rattle.tb_value.specs.Promise.Datum as value
use Rattle.tb_value.specs.Promise.Datum.{Datum}
use Rattle.tb_value.specs.Promise.Kind as kind
use Rattle.tb_value.specs.Promise.Kind.{Kind, Parts}
use Rattle.tb_value.specs.Promise.Typed.{ends}
use Rattle.tb_json.specs.Promise.Lists.{◌>>=◌, check}
use Rattle.tb_json.specs.Promise.Text.{is_wide}
use Rattle.tb_label.specs.Promise.Numerals.{is_digit, whole_in}

-- a whole number of the type
abbrev pub ranged_number : Kind → ℤ → Option Datum
ranged_number t z = do
  e ← ends t
  within ← check (int_le e.0 z && int_le z e.1)
  Some (value.int z)

abbrev pub boolean_in : Kind → Bool → Option Datum
boolean_in kind.boolean b = Some (value.boolean b)
boolean_in _ b = None

-- a whole number of at most 64 bits; those of 128 bits are texts
abbrev pub number_in : Kind → Num → Option Datum
number_in t n = if is_wide t then None else as_integer n >>= ranged_number t

-- a text, or the bytes, of fewer than 2^32 bytes
abbrev pub short : List ℕ → Option (List ℕ)
short s = if nat_lt (length s) 4294967296 then Some s else None

abbrev pub is_lower_digit : ℕ → Bool
is_lower_digit c = is_digit c || (nat_le 97 c && nat_le c 102)

-- the bytes of an even number of lower-case hexadecimal digits
unfoldable pub bytes_in : List ℕ → Option (List ℕ)
bytes_in s = if list_all is_lower_digit s then result_ok (decode_of s) else None

abbrev pub text_in : Kind → List ℕ → Option Datum
text_in kind.int128 s = option_map value.int (whole_in s)
text_in kind.string s = option_map value.string (short s)
text_in kind.binary s = option_map value.binary (bytes_in s >>= short)
text_in _ s = None

-- null stands for Null in each type
abbrev mutual
  pub cell_in : Kind → Data → Option Datum
  cell_in t null = Some value.null
  cell_in t (boolean b) = boolean_in t b
  cell_in t (number n) = number_in t n
  cell_in t (string s) = text_in t s
  cell_in (kind.list t) (array ds) = option_map value.list (items_in t ds)
  cell_in (kind.struct ps) (array ds) = option_map value.struct (row_in ps ds)
  cell_in _ (array ds) = None
  cell_in t (object ms) = None

  -- values of one type
  pub items_in : Kind → Items → Option value.Items
  items_in t no_items = Some value.end
  items_in t (item d ds) =
      option_and_then (λ v. option_map (value.more v) (items_in t ds)) (cell_in t d)

  -- one value of each field
  pub row_in : Parts → Items → Option value.Items
  row_in kind.end no_items = Some value.end
  row_in kind.end (item d ds) = None
  row_in (kind.part n t ps) no_items = None
  row_in (kind.part n t ps) (item d ds) =
      option_and_then (λ v. option_map (value.more v) (row_in ps ds)) (cell_in t d)

-- the value of a run, which stands in the text with its count
abbrev pub run_in : Kind → Data × ℕ → Option (Datum × ℕ)
run_in t r = option_map (λ v. (v, r.1)) (cell_in t r.0)
