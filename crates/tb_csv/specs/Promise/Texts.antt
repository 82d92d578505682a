-- The text of a table.
use Rattle.std.specs.Prelude.{◌==◌, ◌++◌, ℕ, List, [], ◌∷◌, length, map, slice_index_or, Option, Some, None, is_none, if◌then◌else◌}
use Rattle.std.specs.Option.{option_map}
use Rattle.std.specs.List.{find, flat_map}
use Rattle.csv.specs.Machine.{line_feed}
use Rattle.csv.specs.Writing.{default_writer, quoted, with_delimiter}
use Rattle.csv.specs.Writing as kit
use Rattle.csv.specs.declared.writer.WriterBuilder.{WriterBuilder}
use Rattle.tb_value.specs.Promise.Datum.{Datum, null, boolean, int, string, binary, list, struct}
use Rattle.tb_value.specs.Promise.Kind.{Kind}
use Rattle.tb_value.specs.Promise.Kind as kind
use Rattle.tb_label.specs.Promise.Label.{value_text}
use Rattle.tb_value.specs.Promise.Pairs.{row_numbers}
use Rattle.tb_frame.specs.Promise.Table.{Table, TableColumn, height, names_of}
use Rattle.tb_date.specs.Promise.Dates.{is_date, number_text}
use Rattle.tb_csv.specs.Promise.Records.{Field, Record, bytes_of}
use Rattle.tb_value.specs.Promise.Refusals.{first_cause}
use Rattle.tb_csv.specs.declared.fault.CsvFault.{CsvFault}
use Rattle.tb_csv.specs.declared.fault.CsvFault.TheVariants.{Empty, NoText}
use Rattle.tb_csv.specs.declared.field_type.FieldType.{FieldType}
use Rattle.tb_csv.specs.declared.field_type.FieldType.TheVariants as field

-- the type that fields of such values are read as
abbrev pub field_type : Kind → Option FieldType
field_type kind.boolean = Some field.Boolean
field_type kind.int8 = Some field.Int8
field_type kind.int16 = Some field.Int16
field_type kind.int32 = Some field.Int32
field_type kind.int64 = Some field.Int64
field_type kind.int128 = Some field.Int128
field_type kind.uint8 = Some field.UInt8
field_type kind.uint16 = Some field.UInt16
field_type kind.uint32 = Some field.UInt32
field_type kind.uint64 = Some field.UInt64
field_type kind.string = Some field.String
field_type kind.date = Some field.Date
field_type _ = None

-- Null is an absent field, and each other value its text
abbrev pub field_of : Kind → Datum → Field
field_of k null = None
field_of k (boolean b) = Some (value_text (boolean b))
field_of k (int z) = Some (number_text (is_date k) z)
field_of k (string s) = Some (value_text (string s))
field_of k (binary s) = None
field_of k (list vs) = None
field_of k (struct vs) = None

-- the field of a value in a record of so many. One field alone is never absent, since a line without a byte is no record
abbrev pub field_among : ℕ → Kind → Datum → Field
field_among n k v = if n == 1 then Some (bytes_of (field_of k v)) else field_of k v

-- the fields of row i
abbrev pub row_fields : Table → ℕ → Record
row_fields t i =
    map (λ (c : TableColumn). field_among (length t) c.kind (slice_index_or c.values i null)) t

-- the names, and the fields of each row
abbrev pub table_records : Table → List Record
table_records t = map (λ n. Some n) (names_of t) ∷ map (row_fields t) (row_numbers (height t))

-- quotes where they are needed, and this byte between fields
abbrev pub style : ℕ → WriterBuilder
style separator = with_delimiter default_writer separator

-- an absent field is nothing, and the empty text stands in quotes
abbrev pub field_text : ℕ → Field → List ℕ
field_text separator None = []
field_text separator (Some []) = quoted (style separator) []
field_text separator (Some (c ∷ cs)) = kit.field_text (style separator) (c ∷ cs)

-- the fields of a record with the separator between them
abbrev pub line_text : ℕ → Record → List ℕ
line_text separator [] = []
line_text separator (f ∷ fs) =
    field_text separator f ++ flat_map (λ g. separator ∷ field_text separator g) fs

-- a line feed ends each record
abbrev pub record_text : ℕ → Record → List ℕ
record_text separator r = line_text separator r ++ line_feed ∷ []

-- the text of records, one behind another
abbrev pub records_text : ℕ → List Record → List ℕ
records_text separator rs = flat_map (record_text separator) rs

-- the text of the rows of a table, without their names
abbrev pub body_text : ℕ → Table → List ℕ
body_text separator t = records_text separator (map (row_fields t) (row_numbers (height t)))

-- the text of a table
unfoldable pub csv_text : ℕ → Table → List ℕ
csv_text separator t = records_text separator (table_records t)

-- there is no column
abbrev pub no_column : Table → Option CsvFault
no_column [] = Some Empty
no_column (c ∷ cs) = None

-- the first column of a type without a text form
abbrev pub no_text : Table → Option CsvFault
no_text t = option_map (λ (c : TableColumn). NoText c.name)
    (find (λ (c : TableColumn). is_none (field_type c.kind)) t)

-- why a table has no text
abbrev pub text_refusal : Table → Option CsvFault
text_refusal t = first_cause (no_column t ∷ no_text t ∷ [])
