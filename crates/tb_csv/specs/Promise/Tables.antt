-- The table that records are.
use Rattle.std.specs.Prelude.{ℕ, List, [], ◌∷◌, length, map}
use Rattle.tb_value.specs.Promise.Names.{Name}
use Rattle.tb_value.specs.Promise.Pairs.{row_numbers}
use Rattle.tb_frame.specs.Promise.Refusal.{name_at}
use Rattle.tb_frame.specs.Promise.Table.{Table, TableColumn}
use Rattle.tb_csv.specs.Promise.Records.{Field, Record, column_fields, line_of}
use Rattle.tb_csv.specs.Promise.Types.{cell_of, column_type, kind_at}
use Rattle.tb_csv.specs.declared.field_type.FieldType.{FieldType}
use Rattle.tb_csv.specs.declared.options.TypeOf.{TypeOf}

-- the column of this name whose fields are read as this type
abbrev pub typed_column : Name → FieldType → List Field → TableColumn
typed_column name t fields =
    record { name = name; kind = kind_at t; values = map (cell_of t) fields }

-- column j of the table
abbrev pub csv_column : List TypeOf → List Name → List Record → ℕ → TableColumn
csv_column types names rows j =
    let fields = column_fields rows j in
    let name = name_at names j in
    typed_column name (column_type types name fields) fields

-- the columns of these names, from the left
abbrev pub csv_columns : List TypeOf → List Name → List Record → Table
csv_columns types names rows = map (csv_column types names rows) (row_numbers (length names))

-- the first record has the names, and each other one the fields of a row
abbrev pub csv_table : List TypeOf → List Record → Table
csv_table types [] = []
csv_table types (names ∷ rows) = csv_columns types (line_of names) rows
