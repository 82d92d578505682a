-- A table made wide: a row for each distinct row of the index, and for each value column a column for each distinct row of the
-- columns that become headers.
use Rattle.std.specs.Prelude.{ℕ, ◌==◌, Bool, ◌&&◌, if◌then◌else◌, List, [], ◌∷◌, ◌++◌, length, map, filter, Result, Ok, Err, unwrap_or}
use Rattle.std.specs.List.{flat_map}
use Rattle.tb_value.specs.Promise.Datum.{Datum, null}
use Rattle.tb_value.specs.Promise.Kind.{Kind}
use Rattle.tb_value.specs.Promise.Kind as kind
use Rattle.tb_value.specs.Promise.Names.{Name}
use Rattle.tb_value.specs.Promise.Pairs.{row_numbers}
use Rattle.tb_value.specs.declared.error.ComputeCause.TheVariants.{Evaluate, EvaluateLength}
use Rattle.tb_value.specs.declared.error.PolarsError.{PolarsError}
use Rattle.tb_value.specs.declared.error.PolarsError.TheVariants.{ComputeError}
use Rattle.tb_frame.specs.Promise.Table.{TableColumn, Table, by_name}
use Rattle.tb_rows.specs.Promise.InOrder.{in_order}
use Rattle.tb_rows.specs.Promise.Rows.{first_rows, group_of, same_rows, row_value}
use Rattle.tb_agg.specs.Promise.Aggregates.{aggregate, result_kind}
use Rattle.tb_pivot.specs.Promise.Headers.{block_name, header_text}
use Rattle.tb_pivot.specs.Promise.Request.{Chosen, Request, Way, one_row, aggregated, asked, chosen}

-- ROWS AND HEADERS

-- two rows of the table have the same values in each of some columns
abbrev pub are_alike : List TableColumn → ℕ → ℕ → Bool
are_alike cs = same_rows (map (λ (c : TableColumn). c.values) cs)

-- the rows of the table in which a row of some columns stands for the first time
abbrev pub distinct_rows : Chosen → List TableColumn → List ℕ
distinct_rows q cs = first_rows (are_alike cs) q.height

abbrev pub answer_rows : Chosen → List ℕ
answer_rows q = distinct_rows q q.index

abbrev pub header_rows : Chosen → List ℕ
header_rows q = distinct_rows q q.on

abbrev pub header_at : Chosen → ℕ → Name
header_at q y = header_text (map (λ (c : TableColumn). row_value c.values y) q.on)

-- CELLS

-- the rows of the table that have the index of row x and the header of row y
abbrev pub cell_rows : Chosen → ℕ → ℕ → List ℕ
cell_rows q x y = filter (λ i. are_alike q.index x i && are_alike q.on y i) (row_numbers q.height)

-- the columns whose rows are cells: those of the index and of the headers
abbrev pub key_columns : Chosen → List TableColumn
key_columns q = q.index ++ q.on

-- what a caller's object answers for a column and the groups of the table's rows, or why it is refused
abbrev pub one_each : ℕ → TableColumn → Result TableColumn PolarsError
one_each groups c = (if length c.values == groups
    then Ok c
    else Err (ComputeError (EvaluateLength groups (length c.values))))

abbrev pub given_column : ℕ → Result TableColumn ℕ → Result TableColumn PolarsError
given_column groups (Ok c) = one_each groups c
given_column groups (Err code) = Err (ComputeError (Evaluate code))

abbrev pub answer_of : List ℕ → List ℕ → TableColumn → Result Name ℕ
    → (Table → List ℕ → List ℕ → Result TableColumn ℕ) → Result TableColumn PolarsError
answer_of firsts numbers v (Err code) answers = Err (ComputeError (Evaluate code))
answer_of firsts numbers v (Ok n) answers =
    given_column (length firsts) (answers (record v { name = n } ∷ []) firsts numbers)

abbrev pub answered_column : Chosen → TableColumn → Result Name ℕ
    → (Table → List ℕ → List ℕ → Result TableColumn ℕ) → Result TableColumn PolarsError
answered_column q v name answers = answer_of (distinct_rows q (key_columns q))
    (map (group_of (are_alike (key_columns q)) q.height) (row_numbers q.height)) v name answers

-- the value at the place of a group, of the column that was answered
abbrev pub answer_at : Result TableColumn PolarsError → ℕ → Datum
answer_at (Ok c) k = row_value c.values k
answer_at (Err e) k = null

-- the value for the rows of a cell, of which row i is the first
abbrev pub value_for : Chosen → TableColumn → Way → ℕ → List ℕ → Datum
value_for q v one_row i rows = row_value v.values i
value_for q v (aggregated agg) i rows = aggregate agg (map (row_value v.values) rows)
value_for q v (asked name answers) i rows =
    answer_at (answered_column q v name answers) (group_of (are_alike (key_columns q)) q.height i)

-- Null where the cell has no rows
abbrev pub cell_of : Chosen → TableColumn → List ℕ → Datum
cell_of q v [] = null
cell_of q v (i ∷ rows) = value_for q v q.way i (i ∷ rows)

abbrev pub cell : Chosen → TableColumn → ℕ → ℕ → Datum
cell q v x y = cell_of q v (cell_rows q x y)

-- THE TABLE

-- the type of the cells of a value column; where there is none the request is refused
abbrev pub answer_kind : Result TableColumn PolarsError → Kind
answer_kind (Ok c) = c.kind
answer_kind (Err e) = kind.null

abbrev pub way_kind : Chosen → TableColumn → Way → Kind
way_kind q v one_row = v.kind
way_kind q v (aggregated agg) = unwrap_or (result_kind agg v.kind) kind.null
way_kind q v (asked name answers) = answer_kind (answered_column q v name answers)

-- the columns of a value column, one for each header
abbrev pub block_column : Chosen → TableColumn → ℕ → TableColumn
block_column q v y = record {
  name = block_name (length q.values) q.separator v.name (header_at q y);
  kind = way_kind q v q.way;
  values = map (λ x. cell q v x y) (answer_rows q);
}

abbrev pub block : Chosen → TableColumn → List TableColumn
block q v = (if q.sorts
    then in_order by_name (map (block_column q v) (header_rows q))
    else map (block_column q v) (header_rows q))

-- the values of a column in the rows in which a row of the index stands for the first time
abbrev pub index_column : Chosen → TableColumn → TableColumn
index_column q c = record c { values = map (row_value c.values) (answer_rows q) }

-- the index and the blocks; without value columns there is no column
abbrev pub with_blocks : Chosen → List TableColumn → Table
with_blocks q [] = []
with_blocks q (v ∷ vs) = map (index_column q) q.index ++ flat_map (block q) (v ∷ vs)

abbrev pub wide : Chosen → Table
wide q = with_blocks q q.values

-- the table that a request asks for
abbrev pub pivot_table : Request → Table
pivot_table q = wide (chosen q)
