-- What holds of texts and tables.
use Rattle.std.specs.Prelude.{◌≡◌, ◌≢◌, ◌≤◌, ◌++◌, ⊤, ℕ, List, ◌∷◌, length, map, Some, None, is_none, true, false}
use Rattle.std.specs.List.{All}
use Rattle.csv.specs.Machine.{line_feed}
use Rattle.csv.specs.Reading.{strip_bom}
use Rattle.tb_value.specs.Promise.Datum.{Datum, int, null}
use Rattle.tb_value.specs.Promise.Kind.{Kind}
use Rattle.tb_value.specs.Promise.Kind as kind
use Rattle.tb_value.specs.Promise.Typed.{HasType}
use Rattle.tb_value.specs.declared.limits.TheConstants.{MAX_ROWS}
use Rattle.tb_frame.specs.Promise.Table.{IsTable, Table, TableColumn, height, names_of}
use Rattle.tb_date.specs.Promise.Dates.{has_text, is_date}
use Rattle.tb_csv.specs.Promise.Faults.{csv_refusal}
use Rattle.tb_csv.specs.Promise.LineNumbers.{has_open_quote}
use Rattle.tb_csv.specs.Read.{all_fields}
use Rattle.tb_csv.specs.Promise.Records.{is_text, line_of, lines_of, marks_of, records_of}
use Rattle.tb_csv.specs.Promise.Tables.{csv_table}
use Rattle.tb_csv.specs.Promise.Texts.{csv_text, field_among, field_type, no_column, table_records, text_refusal}
use Rattle.tb_csv.specs.Promise.Types.{cell_value, or_string}
use Rattle.tb_csv.specs.declared.options.TypeOf.{TypeOf}

abbrev pub comma : ℕ
comma = 44

-- the bytes of the records of a text are those that the toolchain's reader reads, and each of their fields has a mark
abbrev pub MarksFit : Type 0
MarksFit = (separator : ℕ) (text : List ℕ)
    → (map line_of (records_of separator text) ≡ lines_of separator text)
    × (length (marks_of separator text) ≡ length (all_fields (lines_of separator text)))

-- the records of the text of a table with columns, written with commas and with no byte-order mark at its front, are those of the table
abbrev pub RecordsBack : Type 0
RecordsBack = (t : Table) → no_column t ≡ None → strip_bom (csv_text comma t) ≡ csv_text comma t
    → records_of comma (csv_text comma t) ≡ table_records t

-- a value that reads back in a record of so many fields: no Null where a text stands alone, and no day outside the years 0 to 9999
abbrev pub IsPlain : ℕ → Kind → Datum → Type 0
IsPlain n k null = n ≡ 1 → k ≢ kind.string
IsPlain n k (int z) = is_date k ≡ true → has_text z ≡ true
IsPlain n k _ = ⊤

-- a value of a type with a text form that reads back is what its field is at the type
abbrev pub CellsBack : Type 0
CellsBack =
    (n : ℕ) (k : Kind) → is_none (field_type k) ≡ false → (v : Datum) → HasType k v → IsPlain n k v
    → cell_value (or_string (field_type k)) (field_among n k v) ≡ Some v

-- the types of the columns by their names
abbrev pub types_of : Table → List TypeOf
types_of t = map
    (λ (c : TableColumn). record { name = c.name; field_type = or_string (field_type c.kind) }) t

-- a table that has a text, whose values read back, with names of UTF-8 and with no byte-order mark at the front of its text
pub record IsTold (t : Table) : Type 0 where
  pub table : IsTable t
  pub few : height t ≤ MAX_ROWS
  pub written : text_refusal t ≡ None
  pub names : is_text (names_of t) ≡ true
  pub plain : All (λ (c : TableColumn). All (IsPlain (length t) c.kind) c.values) t
  pub front : strip_bom (csv_text comma t) ≡ csv_text comma t

-- such a table, written with commas and read back with its types given, is the same table
abbrev pub RoundTrip : Type 0
RoundTrip = (t : Table) → IsTold t
    → (csv_refusal (types_of t) comma (csv_text comma t) ≡ None)
    × (csv_table (types_of t) (records_of comma (csv_text comma t)) ≡ t)

-- The records of a text are those of two pieces of it, one behind the other, if it is cut before a line feed that stands in no quotes.
-- The second piece alone says whether a quote stays open
abbrev pub PiecesFit : Type 0
PiecesFit = (separator : ℕ) → separator ≢ line_feed → (piece rest : List ℕ)
    → has_open_quote separator piece ≡ false
    → (records_of separator (piece ++ line_feed ∷ rest)
    ≡ records_of separator piece ++ records_of separator (line_feed ∷ rest))
    × (has_open_quote separator (piece ++ line_feed ∷ rest)
    ≡ has_open_quote separator (line_feed ∷ rest))
