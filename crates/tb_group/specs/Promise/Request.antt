-- What is asked of a grouping.
use Rattle.std.specs.Prelude.{List, map}
use Rattle.std.specs.List.{filter_map}
use Rattle.tb_value.specs.Promise.Names.{Name}
use Rattle.tb_chunk.specs.Promise.Col.{Col}
use Rattle.tb_frame.specs.Promise.Join.{column_named}
use Rattle.tb_frame.specs.Promise.Table.{TableColumn, Table, table_of}
use Rattle.tb_group.specs.declared.request.GroupAgg.{GroupAgg}

-- the table, the names of the columns by which its rows are grouped, and what is made of the groups
pub record Request : Type 0 where
  pub table : Table
  pub by : List Name
  pub aggs : List GroupAgg

-- the request of columns and names that are lent
abbrev pub lent_request : List Col → List Name → List GroupAgg → Request
lent_request cs by aggs = record { table = table_of cs; by = by; aggs = aggs }

-- the columns by which rows are grouped
abbrev pub by_columns : Request → List TableColumn
by_columns q = filter_map (column_named q.table) q.by

-- the names of the columns of whose values something is made, and those of the columns that are made
abbrev pub agg_sources : List GroupAgg → List Name
agg_sources aggs = map (λ (a : GroupAgg). a.column) aggs

abbrev pub agg_names : List GroupAgg → List Name
agg_names aggs = map (λ (a : GroupAgg). a.name) aggs
