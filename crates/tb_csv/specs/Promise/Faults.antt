-- Why a text is no table: the first cause that holds.
use Rattle.std.specs.Prelude.{◌+◌, ◌==◌, ℕ, not, nat_lt, List, [], ◌∷◌, length, map, Option, Some, None, if◌then◌else◌}
use Rattle.std.specs.Option.{option_map}
use Rattle.tb_value.specs.Promise.Names.{Name}
use Rattle.tb_value.specs.Promise.Pairs.{row_numbers}
use Rattle.tb_value.specs.Promise.Refusals.{first_cause, when}
use Rattle.tb_value.specs.declared.limits.TheConstants.{MAX_ROWS}
use Rattle.tb_frame.specs.Promise.Refusal.{first_repeated, name_at}
use Rattle.tb_csv.specs.Promise.LineNumbers.{has_open_quote}
use Rattle.tb_csv.specs.Promise.Records.{Field, Line, Record, column_fields, is_text, line_of, records_of}
use Rattle.tb_csv.specs.Promise.Types.{column_type, is_of}
use Rattle.tb_csv.specs.declared.fault.CsvFault.{CsvFault}
use Rattle.tb_csv.specs.declared.fault.CsvFault.TheVariants.{OpenQuote, Empty, NotUtf8, RepeatedName, FieldCount, TooManyRows, NotOfType}
use Rattle.tb_csv.specs.declared.field_type.FieldType.{FieldType}
use Rattle.tb_csv.specs.declared.options.TypeOf.{TypeOf}

-- record i has another number of fields than there are names, or is not UTF-8
abbrev pub row_fault : ℕ → ℕ → Line → Option CsvFault
row_fault width i r = first_cause
    (when (not (length r == width)) (FieldCount i width (length r))
    ∷ when (not (is_text r)) (NotUtf8 i) ∷ [])

-- the first fault of rows, of which the first is record i
abbrev pub rows_fault : ℕ → ℕ → List Line → Option CsvFault
rows_fault width i [] = None
rows_fault width i (r ∷ rs) = first_cause (row_fault width i r ∷ rows_fault width (i + 1) rs ∷ [])

abbrev pub repeated_name : List Name → Option CsvFault
repeated_name names = option_map (λ n. RepeatedName n) (first_repeated names)

-- the first field of a column that is none of its type. The first field stands in record i
abbrev pub column_fault : Name → FieldType → ℕ → List Field → Option CsvFault
column_fault name t i [] = None
column_fault name t i (f ∷ fs) = if is_of t f
    then column_fault name t (i + 1) fs
    else Some (NotOfType i name t)

-- names, rows and their number. The record of names is number 0
abbrev pub records_fault : List Line → Option CsvFault
records_fault [] = Some Empty
records_fault (names ∷ rows) = first_cause
    (when (not (is_text names)) (NotUtf8 0) ∷ repeated_name names ∷ rows_fault (length names) 1 rows
    ∷ when (nat_lt MAX_ROWS (length rows)) TooManyRows ∷ [])

-- column j of the table
abbrev pub typed_fault : List TypeOf → List Name → List Record → ℕ → Option CsvFault
typed_fault types names rows j =
    let fields = column_fields rows j in
    let name = name_at names j in
    column_fault name (column_type types name fields) 1 fields

-- the columns of these names, from the left
abbrev pub columns_fault : List TypeOf → List Name → List Record → Option CsvFault
columns_fault types names rows =
    first_cause (map (typed_fault types names rows) (row_numbers (length names)))

-- why the fields of records are not of the types of their columns. The first record has the names
abbrev pub types_fault : List TypeOf → List Record → Option CsvFault
types_fault types [] = None
types_fault types (names ∷ rows) = columns_fault types (line_of names) rows

-- why a text is no names and rows
abbrev pub text_fault : ℕ → List ℕ → Option CsvFault
text_fault separator text = first_cause
    (when (has_open_quote separator text) OpenQuote
    ∷ records_fault (map line_of (records_of separator text)) ∷ [])

-- why a text is no table
abbrev pub csv_refusal : List TypeOf → ℕ → List ℕ → Option CsvFault
csv_refusal types separator text =
    first_cause (text_fault separator text ∷ types_fault types (records_of separator text) ∷ [])
