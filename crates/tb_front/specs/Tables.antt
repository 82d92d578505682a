-- What the program has of two tables.
use Rattle.std.specs.Prelude.{◌≡◌, List, None, IfOk, Result}
use Rattle.tb_value.specs.Promise.Names.{Name}
use Rattle.tb_chunk.specs.Promise.Col.{Col}
use Rattle.tb_frame.specs.Promise.Table.{Table, table_of}
use Rattle.tb_csv.specs.Faults as csv
use Rattle.tb_csv.specs.Promise.Faults.{types_fault}
use Rattle.tb_csv.specs.Promise.Keys.{types_with_keys}
use Rattle.tb_csv.specs.Promise.Records.{Record}
use Rattle.tb_csv.specs.Promise.Tables.{csv_table}
use Rattle.tb_csv.specs.Read.{IsRead}
use Rattle.tb_csv.specs.declared.fault.CsvFault.{CsvFault}
use Rattle.tb_csv.specs.declared.options.TypeOf.{TypeOf}
use Rattle.tb_csv.specs.declared.records.Records.{Records}
use Rattle.tb_front.specs.declared.reading.TwoTables.{TwoTables}

abbrev pub tables_view : TwoTables → Table × Table
tables_view t = (table_of t.left, table_of t.right)

-- the table of records by these types, or why they are none
pub record IsMade (r : Records) (types : List TypeOf) (made : Result (List Col) CsvFault)
    : Type 0 where
  pub settles : (rs : List Record) → IsRead r rs → csv.Settles made (types_fault types rs)
  pub table : (rs : List Record) → IsRead r rs
      → IfOk made (λ t. table_of t ≡ csv_table types rs)

-- a side of a join: the table of records by the types of its keys, of which all its fields are
pub record IsSide (types : List TypeOf) (rs os : List Record) (on others_on : List Name)
    (t : List Col) : Type 0 where
  pub sound : types_fault (types_with_keys types rs os on others_on) rs ≡ None
  pub table : table_of t ≡ csv_table (types_with_keys types rs os on others_on) rs

-- the tables of two texts' records that are joined by these names
pub record AreJoined (types : List TypeOf) (left_on right_on : List Name) (ls rs : List Record)
    (t : TwoTables) : Type 0 where
  pub left : IsSide types ls rs left_on right_on t.left
  pub right : IsSide types rs ls right_on left_on t.right
