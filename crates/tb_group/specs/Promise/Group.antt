-- A table grouped: a row for each distinct row of some columns, with one value for each aggregate of the rows that have it.
use Rattle.std.specs.Prelude.{ℕ, Bool, List, [], ◌∷◌, ◌++◌, map, filter, Option, Some, None, unwrap_or}
use Rattle.std.specs.List.{flat_map}
use Rattle.tb_value.specs.Promise.Datum.{Datum}
use Rattle.tb_value.specs.Promise.Kind as kind
use Rattle.tb_value.specs.Promise.Pairs.{row_numbers}
use Rattle.tb_frame.specs.Promise.Join.{column_named}
use Rattle.tb_frame.specs.Promise.Table.{TableColumn, Table, height}
use Rattle.tb_rows.specs.Promise.Rows.{first_rows, same_rows, row_value}
use Rattle.tb_agg.specs.Promise.Aggregates.{aggregate, result_kind}
use Rattle.tb_group.specs.declared.request.GroupAgg.{GroupAgg}
use Rattle.tb_group.specs.Promise.Request.{Request, by_columns}

-- two rows of the table have the same values in each of the columns by which rows are grouped, Null the same as Null
abbrev pub alike : Request → ℕ → ℕ → Bool
alike q = same_rows (map (λ (c : TableColumn). c.values) (by_columns q))

-- the rows in which a row of these columns stands for the first time
abbrev pub group_firsts : Request → List ℕ
group_firsts q = first_rows (alike q) (height q.table)

-- the rows that are like a row, in order
abbrev pub members : Request → ℕ → List ℕ
members q x = filter (alike q x) (row_numbers (height q.table))

-- the values of the rows that are like a row
abbrev pub member_values : Request → TableColumn → ℕ → List Datum
member_values q v x = map (row_value v.values) (members q x)

-- a column by which rows are grouped, in the first rows
abbrev pub key_column : Request → TableColumn → TableColumn
key_column q c = record c { values = map (row_value c.values) (group_firsts q) }

-- the column of an aggregate of a column; where there is none the request is refused
abbrev pub agg_column : Request → GroupAgg → TableColumn → TableColumn
agg_column q a v = record {
  name = a.name;
  kind = unwrap_or (result_kind a.agg v.kind) kind.null;
  values = map (λ x. aggregate a.agg (member_values q v x)) (group_firsts q);
}

abbrev pub made_of : Request → GroupAgg → Option TableColumn → List TableColumn
made_of q a None = []
made_of q a (Some v) = agg_column q a v ∷ []

-- the columns by which rows are grouped, and then one for each aggregate
abbrev pub group_table : Request → Table
group_table q = map (key_column q) (by_columns q)
    ++ flat_map (λ (a : GroupAgg). made_of q a (column_named q.table a.column)) q.aggs
