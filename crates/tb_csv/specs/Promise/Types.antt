-- What a field is at a type.
use Rattle.std.specs.Prelude.{ℕ, ℤ, List, [], ◌∷◌, length, nat_lt, int_le, Bool, true, false, ◌&&◌, if◌then◌else◌, Option, Some, None, option_map, option_and_then, is_some, codes}
use Rattle.std.specs.List.{list_all, find}
use Rattle.std.specs.Str.{bytes_eq}
use Rattle.tb_value.specs.Promise.Datum.{Datum, null, boolean, int, string}
use Rattle.tb_value.specs.Promise.Kind.{Kind}
use Rattle.tb_value.specs.Promise.Kind as kind
use Rattle.tb_value.specs.Promise.Names.{Name, same_name}
use Rattle.tb_value.specs.Promise.Typed.{ends}
use Rattle.tb_label.specs.Promise.Numerals.{whole_in}
use Rattle.tb_date.specs.Promise.Dates.{date_in}
use Rattle.tb_csv.specs.Promise.Records.{Field}
use Rattle.tb_csv.specs.declared.field_type.FieldType.{FieldType}
use Rattle.tb_csv.specs.declared.field_type.FieldType.TheVariants as field
use Rattle.tb_csv.specs.declared.options.TypeOf.{TypeOf}

-- the type of a column whose fields are read as this type
abbrev pub kind_at : FieldType → Kind
kind_at field.Boolean = kind.boolean
kind_at field.Int8 = kind.int8
kind_at field.Int16 = kind.int16
kind_at field.Int32 = kind.int32
kind_at field.Int64 = kind.int64
kind_at field.Int128 = kind.int128
kind_at field.UInt8 = kind.uint8
kind_at field.UInt16 = kind.uint16
kind_at field.UInt32 = kind.uint32
kind_at field.UInt64 = kind.uint64
kind_at field.String = kind.string
kind_at field.Date = kind.date

abbrev pub is_within : Option (ℤ × ℤ) → ℤ → Bool
is_within None z = false
is_within (Some e) z = int_le e.0 z && int_le z e.1

-- a whole number between the ends of the type
abbrev pub ranged_number : Kind → ℤ → Option Datum
ranged_number t z = if is_within (ends t) z then Some (int z) else None

-- `true` or `false`
abbrev pub truth_in : List ℕ → Option Datum
truth_in s = if bytes_eq s (codes "true") then Some (boolean true) else if bytes_eq s (codes "false") then Some (boolean false) else None

-- a text of fewer than 2^32 bytes
abbrev pub text_in : List ℕ → Option Datum
text_in s = if nat_lt (length s) 4294967296 then Some (string s) else None

-- the value that a field is at a type, if it is one
abbrev pub field_value : FieldType → List ℕ → Option Datum
field_value field.Boolean s = truth_in s
field_value field.String s = text_in s
field_value field.Date s = option_map int (date_in s)
field_value t s = option_and_then (ranged_number (kind_at t)) (whole_in s)

-- a text without a byte is itself at String, and Null at each other type, which has no such value
abbrev pub empty_value : FieldType → Datum
empty_value field.String = string []
empty_value _ = null

-- an absent field is Null at each type
abbrev pub cell_value : FieldType → Field → Option Datum
cell_value t None = Some null
cell_value t (Some []) = Some (empty_value t)
cell_value t (Some (c ∷ cs)) = field_value t (c ∷ cs)

-- whether a field is a value of the type, or has no byte
abbrev pub is_of : FieldType → Field → Bool
is_of t f = is_some (cell_value t f)

abbrev pub value_or_null : Option Datum → Datum
value_or_null None = null
value_or_null (Some v) = v

-- the value of a field that is one
abbrev pub cell_of : FieldType → Field → Datum
cell_of t f = value_or_null (cell_value t f)

abbrev pub or_string : Option FieldType → FieldType
or_string None = field.String
or_string (Some t) = t

-- the first of Int64, Boolean and Date that all fields are of, and else String
abbrev pub told_type : List Field → FieldType
told_type fields = or_string
    (find (λ t. list_all (is_of t) fields) (field.Int64 ∷ field.Boolean ∷ field.Date ∷ []))

-- the type that is given for a name, the first where there are several
abbrev pub given_type : List TypeOf → Name → Option FieldType
given_type types name =
    option_map (λ (t : TypeOf). t.field_type) (find (λ (t : TypeOf). same_name t.name name) types)

abbrev pub or_told : List Field → Option FieldType → FieldType
or_told fields None = told_type fields
or_told fields (Some t) = t

-- the type of a column: the one that is given, or the one that its fields tell
abbrev pub column_type : List TypeOf → Name → List Field → FieldType
column_type types name fields = or_told fields (given_type types name)
