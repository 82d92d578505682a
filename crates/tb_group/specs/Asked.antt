-- The columns that a request names, as they are lent.
use Rattle.std.specs.Prelude.{◌≡◌, List, map, Option}
use Rattle.std.specs.List.{filter_map}
use Rattle.std.specs.Option.{option_map}
use Rattle.tb_chunk.specs.Promise.Col.{Col}
use Rattle.tb_chunk.specs.Lent.{lent_columns}
use Rattle.tb_frame.specs.Promise.Frame.{selected_columns}
use Rattle.tb_frame.specs.Promise.Join.{column_named}
use Rattle.tb_frame.specs.Promise.Table.{IsTable, Table, TableColumn, plain_column, table_of}
use Rattle.tb_value.specs.Promise.Names.{Name}
use Rattle.tb_group.specs.Promise.Request.{agg_sources}
use Rattle.tb_group.specs.declared.request.GroupAgg.{GroupAgg}
use Rattle.tb_group.specs.declared.lookup.AskedColumn.{AskedColumn}
use Rattle.tb_group.specs.declared.lookup.GroupColumns.{GroupColumns}

-- an aggregate beside the column of whose values it is made
abbrev pub Asked : Type 0
Asked = GroupAgg × TableColumn

abbrev pub asked_as : AskedColumn → Asked
asked_as a = (a.asked.now, plain_column a.column.now)

abbrev pub asked_list : List AskedColumn → List Asked
asked_list all = map asked_as all

-- the columns that they stand beside
abbrev pub source_columns : List AskedColumn → List Col
source_columns all = map (λ (a : AskedColumn). a.column.now) all

-- the aggregates that are asked for, each beside the table's column of that name
abbrev pub beside : Table → GroupAgg → Option Asked
beside t a = option_map (λ (v : TableColumn). (a, v)) (column_named t a.column)

abbrev pub asked_of : Table → List GroupAgg → List Asked
asked_of t aggs = filter_map (beside t) aggs

-- the columns of a table were found by their names
pub record AreFound (cs : List Col) (names : List Name) (aggs : List GroupAgg)
    (f : GroupColumns) : Type 0 where
  pub table : IsTable (table_of cs)
  pub by : lent_columns f.by.items ≡ selected_columns names cs
  pub sources : lent_columns f.sources.items ≡ selected_columns (agg_sources aggs) cs
