-- The texts of tables.
use Rattle.std.specs.Prelude.{ℕ, ℤ, List, [], ◌∷◌, ◌++◌, map, codes, Bool, true, false, if◌then◌else◌, Option, Some, None}
use Rattle.std.specs.Fmt.{signed_decimal}
use Rattle.hex.specs.Hex.{encode_lower}
use Rattle.serde_json.specs.Data.{Data, Items, null, boolean, number, unsigned, string, array, object, member, no_members, item, no_items}
use Rattle.serde_json.specs.Find.{of_integer}
use Rattle.serde_json.specs.View.{items_of}
use Rattle.serde_json.specs.Written.{compact_text}
use Rattle.tb_value.specs.Promise.Datum as value
use Rattle.tb_value.specs.Promise.Datum.{Datum}
use Rattle.tb_value.specs.Promise.Kind as kind
use Rattle.tb_value.specs.Promise.Kind.{Kind, Parts}
use Rattle.tb_value.specs.declared.dtype.TimeUnit.{TimeUnit}
use Rattle.tb_value.specs.declared.dtype.TimeUnit.TheVariants.{Nanoseconds, Microseconds, Milliseconds}
use Rattle.tb_value.specs.Promise.Names.{Name}
use Rattle.tb_value.specs.declared.error.Side.{Side}
use Rattle.tb_value.specs.declared.error.Side.TheVariants as side
use Rattle.tb_value.specs.declared.error.InvalidCause.{InvalidCause}
use Rattle.tb_value.specs.declared.error.InvalidCause.TheVariants.{NoKeys, KeyCounts, NullFlags, KeyKind, BothNone, HeaderType, AggType, NoSupertype}
use Rattle.tb_value.specs.declared.error.ComputeCause.{ComputeCause}
use Rattle.tb_value.specs.declared.error.ComputeCause.TheVariants.{KeyTypes, Validation, TooManyRows, EmptyIndex, EmptyOn, BraceName, ManyInGroup, SumRange, EvaluateLength, Evaluate}
use Rattle.tb_value.specs.declared.error.PolarsError.{PolarsError}
use Rattle.tb_value.specs.declared.error.PolarsError.TheVariants.{ColumnNotFound, InvalidOperation, ComputeError, Duplicate, ShapeMismatch, SchemaMismatch, OutOfMemory}
use Rattle.tb_frame.specs.Promise.Table.{TableColumn, Table, height}

-- ---- types. The members of an object stand in the order of their names.

abbrev pub unit_word : TimeUnit → List ℕ
unit_word Nanoseconds = codes "ns"
unit_word Microseconds = codes "us"
unit_word Milliseconds = codes "ms"

-- a time zone, or null where there is none
abbrev pub zone_data : Option (List ℕ) → Data
zone_data None = null
zone_data (Some z) = string z

abbrev mutual
  pub kind_data : Kind → Data
  kind_data kind.null = string (codes "null")
  kind_data kind.boolean = string (codes "bool")
  kind_data kind.int8 = string (codes "i8")
  kind_data kind.int16 = string (codes "i16")
  kind_data kind.int32 = string (codes "i32")
  kind_data kind.int64 = string (codes "i64")
  kind_data kind.int128 = string (codes "i128")
  kind_data kind.uint8 = string (codes "u8")
  kind_data kind.uint16 = string (codes "u16")
  kind_data kind.uint32 = string (codes "u32")
  kind_data kind.uint64 = string (codes "u64")
  kind_data kind.string = string (codes "str")
  kind_data kind.binary = string (codes "bin")
  kind_data kind.date = string (codes "date")
  kind_data kind.time = string (codes "time")
  kind_data (kind.datetime u z) = object (member (codes "datetime") (string (unit_word u)) (member (codes "zone") (zone_data z) no_members))
  kind_data (kind.duration u) = object (member (codes "duration") (string (unit_word u)) no_members)
  kind_data (kind.list t) = object (member (codes "list") (kind_data t) no_members)
  kind_data (kind.struct ps) = object (member (codes "struct") (array (parts_data ps)) no_members)

  -- the fields of a struct, in order
  pub parts_data : Parts → Items
  parts_data kind.end = no_items
  parts_data (kind.part n t ps) = item (object (member (codes "name") (string n) (member (codes "type") (kind_data t) no_members))) (parts_data ps)

-- ---- values

-- the whole numbers of 128 bits are written as texts, and all others as numbers
abbrev pub is_wide : Kind → Bool
is_wide kind.int128 = true
is_wide _ = false

abbrev pub number_data : Kind → ℤ → Data
number_data t z = if is_wide t then string (signed_decimal z) else number (of_integer z)

-- the type of the values in a list, and the fields of a struct
abbrev pub inner_kind : Kind → Kind
inner_kind (kind.list t) = t
inner_kind _ = kind.null

abbrev pub fields_in : Kind → Parts
fields_in (kind.struct ps) = ps
fields_in _ = kind.end

abbrev mutual
  -- a value of the type; bytes are a text of hexadecimal digits
  pub value_data : Kind → Datum → Data
  value_data t value.null = null
  value_data t (value.boolean b) = boolean b
  value_data t (value.int z) = number_data t z
  value_data t (value.string s) = string s
  value_data t (value.binary s) = string (encode_lower s)
  value_data t (value.list vs) = array (items_data (inner_kind t) vs)
  value_data t (value.struct vs) = array (fields_data (fields_in t) vs)

  -- values of one type
  pub items_data : Kind → value.Items → Items
  items_data t value.end = no_items
  items_data t (value.more v vs) = item (value_data t v) (items_data t vs)

  -- one value of each field
  pub fields_data : Parts → value.Items → Items
  fields_data ps value.end = no_items
  fields_data kind.end (value.more v vs) = no_items
  fields_data (kind.part n t ps) (value.more v vs) = item (value_data t v) (fields_data ps vs)

-- ---- tables

abbrev pub column_data : TableColumn → Data
column_data c = object (member (codes "name") (string c.name)
    (member (codes "type") (kind_data c.kind) (member (codes "values") (array (items_of (map (value_data c.kind) c.values))) no_members)))

abbrev pub table_data : Table → Data
table_data t = object (member (codes "columns") (array (items_of (map column_data t))) (member (codes "height") (number (unsigned (height t))) no_members))

-- the compact text and a newline
unfoldable pub text_of : Table → List ℕ
text_of t = compact_text (table_data t) ++ 10 ∷ []

-- the same of a table and, behind its height, of how it was made
abbrev pub traced_data : Table → Data → Data
traced_data t trace = object (member (codes "columns") (array (items_of (map column_data t)))
    (member (codes "height") (number (unsigned (height t))) (member (codes "trace") trace no_members)))

unfoldable pub traced_text_of : Table → Data → List ℕ
traced_text_of t trace = compact_text (traced_data t trace) ++ 10 ∷ []

-- ---- refusals

-- an error alone, and with a name
abbrev pub plain_error : List ℕ → Data
plain_error error = object (member (codes "error") (string error) no_members)

abbrev pub named_error : List ℕ → Name → Data
named_error error name = object (member (codes "error") (string error) (member (codes "name") (string name) no_members))

-- the cause of an error, and what goes with it
abbrev pub caused : List ℕ → List ℕ → Data
caused cause error = object (member (codes "cause") (string cause) (member (codes "error") (string error) no_members))

abbrev pub caused_with : List ℕ → List ℕ → List ℕ → Data → Data
caused_with cause error key d = object (member (codes "cause") (string cause) (member (codes "error") (string error) (member key d no_members)))

abbrev pub caused_by_two : List ℕ → List ℕ → List ℕ → ℕ → List ℕ → ℕ → Data
caused_by_two cause error key m other n = object
    (member (codes "cause") (string cause) (member (codes "error") (string error)
    (member key (number (unsigned m)) (member other (number (unsigned n)) no_members))))

abbrev pub side_word : Side → List ℕ
side_word side.Left = codes "left"
side_word side.Right = codes "right"

abbrev pub invalid_data : InvalidCause → Data
invalid_data NoKeys = caused (codes "NoKeys") (codes "InvalidOperation")
invalid_data (KeyCounts l r) = caused_by_two (codes "KeyCounts") (codes "InvalidOperation") (codes "left") l (codes "right") r
invalid_data (NullFlags f k) = caused_by_two (codes "NullFlags") (codes "InvalidOperation") (codes "flags") f (codes "keys") k
invalid_data (KeyKind p) = caused_with (codes "KeyKind") (codes "InvalidOperation") (codes "place") (number (unsigned p))
invalid_data BothNone = caused (codes "BothNone") (codes "InvalidOperation")
invalid_data (HeaderType n) = caused_with (codes "HeaderType") (codes "InvalidOperation") (codes "name") (string n)
invalid_data (AggType n) = caused_with (codes "AggType") (codes "InvalidOperation") (codes "name") (string n)
invalid_data (NoSupertype n) = caused_with (codes "NoSupertype") (codes "InvalidOperation") (codes "name") (string n)

abbrev pub compute_data : ComputeCause → Data
compute_data (KeyTypes p) = caused_with (codes "KeyTypes") (codes "ComputeError") (codes "place") (number (unsigned p))
compute_data (Validation s) = caused_with (codes "Validation") (codes "ComputeError") (codes "side") (string (side_word s))
compute_data TooManyRows = caused (codes "TooManyRows") (codes "ComputeError")
compute_data EmptyIndex = caused (codes "EmptyIndex") (codes "ComputeError")
compute_data EmptyOn = caused (codes "EmptyOn") (codes "ComputeError")
compute_data (BraceName n) = caused_with (codes "BraceName") (codes "ComputeError") (codes "name") (string n)
compute_data ManyInGroup = caused (codes "ManyInGroup") (codes "ComputeError")
compute_data (SumRange n) = caused_with (codes "SumRange") (codes "ComputeError") (codes "name") (string n)
compute_data (EvaluateLength g v) = caused_by_two (codes "EvaluateLength") (codes "ComputeError") (codes "groups") g (codes "values") v
compute_data (Evaluate n) = caused_with (codes "Evaluate") (codes "ComputeError") (codes "number") (number (unsigned n))

abbrev pub error_data : PolarsError → Data
error_data (ColumnNotFound n) = named_error (codes "ColumnNotFound") n
error_data (InvalidOperation c) = invalid_data c
error_data (ComputeError c) = compute_data c
error_data (Duplicate n) = named_error (codes "Duplicate") n
error_data ShapeMismatch = plain_error (codes "ShapeMismatch")
error_data SchemaMismatch = plain_error (codes "SchemaMismatch")
error_data OutOfMemory = plain_error (codes "OutOfMemory")

-- the compact text and a newline
unfoldable pub text_of_refusal : PolarsError → List ℕ
text_of_refusal e = compact_text (error_data e) ++ 10 ∷ []
