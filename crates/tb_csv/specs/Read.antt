-- What was read of a text.
use Rattle.std.specs.Prelude.{◌≡◌, ◌≢◌, ◌≤◌, ◌<◌, ◌+◌, ◌*◌, ◌++◌, ℕ, Bool, List, [], ◌∷◌, false, length, map, replicate, slice_index_or, sum_by, Option, None, option_map}
use Rattle.std.specs.Borrow.{Bor}
use Rattle.std.specs.List.{All, AllZip, flat_map}
use Rattle.csv.specs.Machine.{line_feed}
use Rattle.csv.specs.Records.{fields_of}
use Rattle.tb_value.specs.declared.limits.TheConstants.{MAX_ROWS}
use Rattle.std.specs.Result.{IfOk}
use Rattle.std.specs.Str.{is_utf8}
use Rattle.std.specs.declared.result.Result.{Result}
use Rattle.tb_value.specs.Promise.Names.{Name}
use Rattle.tb_value.specs.Promise.Pairs.{row_numbers}
use Rattle.tb_frame.specs.Promise.Table.{plain_column}
use Rattle.tb_store.specs.declared.column.Column.{Column}
use Rattle.tb_csv.specs.Faults.{Settles}
use Rattle.tb_csv.specs.Promise.Faults.{rows_fault, text_fault, typed_fault}
use Rattle.tb_csv.specs.Promise.LineNumbers.{has_open_quote}
use Rattle.tb_csv.specs.Promise.Tables.{csv_column}
use Rattle.tb_csv.specs.declared.fault.CsvFault.{CsvFault}
use Rattle.tb_csv.specs.declared.options.TypeOf.{TypeOf}
use Rattle.tb_csv.specs.Promise.Records.{Field, Line, Record, bytes_of, column_fields, field, line_of, lines_of, marked_fields, records_of}
use Rattle.tb_csv.specs.declared.lines.Lines.{Lines}
use Rattle.tb_csv.specs.declared.records.Records.{Records}
use Rattle.tb_csv.specs.Numbers.{number_fields}
use Rattle.tb_csv.specs.Places.{IsFromLineEnd}
use Rattle.tb_csv.specs.declared.run.Run.{Run}
use Rattle.tb_csv.specs.declared.field_column.FieldColumn.{FieldColumn}
use Rattle.tb_csv.specs.declared.field_column.FieldColumn.TheVariants as stored
use Rattle.tb_csv.specs.declared.run.RunFields.{RunFields}
use Rattle.tb_csv.specs.declared.run.RunFields.TheVariants as held
use Rattle.tb_csv.specs.declared.run.TextFields.{TextFields}

-- the fields of records, one behind another
abbrev pub all_fields : {X : Type 0} → List (List X) → List X
all_fields rows = flat_map (λ r. r) rows

-- the bytes of the fields of the names, and those of the rows
abbrev pub AreLines : Lines → List Line → Type 0
AreLines r [] = ⊥
AreLines r (names ∷ lines) =
    (r.names.items ≡ names) × (fields_of r.fields ≡ all_fields lines) × (r.height ≡ length lines)
    × (length lines ≤ MAX_ROWS) × All (λ (l : Line). length l ≡ length names) lines

-- fields that stand row by row, by their marks
abbrev pub text_fields : TextFields → List Field
text_fields t = marked_fields t.marks.items (fields_of t.fields)

-- fields that stand in no quotes
abbrev pub bare_fields : Line → List Field
bare_fields line = map (field false) line

-- the fields of a column of rows
abbrev pub held_fields : FieldColumn → List Field
held_fields (stored.Numbers n) = number_fields n
held_fields (stored.Texts r) = bare_fields (fields_of r)

-- the fields of a column of so many rows, of fields that stand row by row, so many a row
abbrev pub fields_down : ℕ → ℕ → ℕ → List Field → List Field
fields_down width height column fields =
    map (λ row. slice_index_or fields (row * width + column) None) (row_numbers height)

-- the bytes of the field are UTF-8
abbrev pub is_text_field : Field → Bool
is_text_field f = is_utf8 (bytes_of f)

-- the field of this column in a row of so many fields
abbrev pub field_in : ℕ → ℕ → RunFields → ℕ → Field
field_in width column (held.Rows t) row =
    slice_index_or (text_fields t) (row * width + column) None
field_in width column (held.Columns cs) row =
    slice_index_or (slice_index_or (map held_fields cs.items) column []) row None

-- the field of this column in each of so many rows
abbrev pub column_in : ℕ → ℕ → ℕ → RunFields → List Field
column_in width height column fields = map (field_in width column fields) (row_numbers height)

-- the field of this column in each row of a run
abbrev pub run_column : ℕ → ℕ → Run → List Field
run_column width column run = column_in width run.height column run.fields

-- the rows of a run, each of so many fields
pub record AreRunRows (width : ℕ) (run : Run) (rows : List Record) : Type 0 where
  pub columns : (column : ℕ) → column < width
      → run_column width column run ≡ column_fields rows column
  pub height : run.height ≡ length rows
  pub level : All (λ (row : Record). length row ≡ width) rows

-- the columns of two runs, each of the second behind its own of the first
pub record AreAppended (first second both : List FieldColumn) : Type 0 where
  pub fields : (column : ℕ) → slice_index_or (map held_fields both) column []
      ≡ slice_index_or (map held_fields first) column []
      ++ slice_index_or (map held_fields second) column []
  pub count : length both ≡ length first

-- the rows, run by run, each with as many fields as there are names
pub record AreRows (r : Records) (rows : List Record) : Type 0 where
  pub runs : (parts : List (List Record)) × (rows ≡ all_fields parts)
      × AllZip (AreRunRows (length r.names.items)) r.runs.items parts
  pub height : r.height ≡ length rows
  pub few : length rows ≤ MAX_ROWS

-- the names and the rows
abbrev pub IsRead : Records → List Record → Type 0
IsRead r [] = ⊥
IsRead r (names ∷ rows) = (r.names.items ≡ line_of names) × AreRows r rows

-- how many fields stand in one list: all of them, or those of a column
abbrev pub counts : RunFields → List ℕ
counts (held.Rows t) = length (fields_of t.fields) ∷ []
counts (held.Columns cs) = map (λ c. length (held_fields c)) cs.items

-- and how many so many rows of so many fields make
abbrev pub full_counts : ℕ → ℕ → RunFields → List ℕ
full_counts width height (held.Rows t) = height * width ∷ []
full_counts width height (held.Columns cs) = replicate width height

-- as many fields as so many rows make
abbrev pub HasFields : ℕ → ℕ → RunFields → Type 0
HasFields width height fields = counts fields ≡ full_counts width height fields

-- as many fields as its rows make
abbrev pub IsFull : ℕ → Run → Type 0
IsFull width run = HasFields width run.height run.fields

-- the same fields of so many rows
pub record AreSameFields (width height : ℕ) (fields same : RunFields) : Type 0 where
  pub columns : (column : ℕ) → column < width
      → column_in width height column same ≡ column_in width height column fields
  pub full : HasFields width height same

-- the rows of some runs
abbrev pub rows_in : List Run → ℕ
rows_in runs = sum_by (λ (run : Run). run.height) runs

-- runs that have these rows, one behind another
pub record HaveRows (width : ℕ) (runs : List Run) (rows : List Record) : Type 0 where
  pub parts : (parts : List (List Record)) × (rows ≡ all_fields parts)
      × AllZip (AreRunRows width) runs parts
  pub full : All (IsFull width) runs

-- as many fields as the rows and the names make, and no more rows than a table may have
pub record IsLevel (r : Records) : Type 0 where
  pub full : All (IsFull (length r.names.items)) r.runs.items
  pub height : r.height ≡ rows_in r.runs.items
  pub few : r.height ≤ MAX_ROWS

-- a field that is lent
abbrev pub lent_field : Option (Bor (List ℕ)) → Field
lent_field f = option_map (λ s. s.now) f

-- what comes of reading column j: the column, or why there is none
abbrev pub IsReadColumn : List TypeOf → List Name → List Record → ℕ → Result Column CsvFault → Type 0
IsReadColumn types names rows j r = Settles r (typed_fault types names rows j)
    × IfOk r (λ c. plain_column c ≡ csv_column types names rows j)

-- what reading a text gives: its records, or why they are none
pub record AreRecords (separator : ℕ) (text : List ℕ) (r : Result Records CsvFault) : Type 0 where
  pub settles : Settles r (text_fault separator text)
  pub read : IfOk r (λ rs. IsRead rs (records_of separator text))
  pub level : IfOk r IsLevel

-- a run of the rows of a piece of a text, in which no fault is found and no quote stays open
pub record IsRunOf (separator : ℕ) (width : ℕ) (piece : List ℕ) (run : Run) : Type 0 where
  pub shut : has_open_quote separator piece ≡ false
  pub sound : rows_fault width 1 (lines_of separator piece) ≡ None
  pub rows : AreRunRows width run (records_of separator piece)
  pub full : IsFull width run

-- runs of the rows of a piece of a text, in which no fault is found and no quote stays open
pub record AreRunsOf (separator : ℕ) (width : ℕ) (piece : List ℕ) (runs : List Run) : Type 0 where
  pub shut : has_open_quote separator piece ≡ false
  pub sound : rows_fault width 1 (lines_of separator piece) ≡ None
  pub rows : HaveRows width runs (records_of separator piece)

-- the same, where the piece begins at the end of a line
abbrev pub AreRunsFrom : ℕ → ℕ → List ℕ → List Run → Type 0
AreRunsFrom separator width piece runs =
    separator ≢ line_feed → IsFromLineEnd piece → AreRunsOf separator width piece runs
