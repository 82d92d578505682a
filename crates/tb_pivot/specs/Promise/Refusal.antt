-- Which pivots are refused, and why: the first of twelve causes.
use Rattle.std.specs.Prelude.{ℕ, nat_lt, Bool, true, false, ◌&&◌, not, List, [], ◌∷◌, ◌++◌, length, map, filter, Option, Some, None, is_none, Result, Ok, Err}
use Rattle.std.specs.Option.{option_map}
use Rattle.std.specs.List.{find}
use Rattle.tb_value.specs.Promise.Names.{Name}
use Rattle.tb_value.specs.Promise.Pairs.{row_numbers}
use Rattle.tb_value.specs.Promise.Refusals.{first_cause, when}
use Rattle.tb_value.specs.declared.error.ComputeCause.TheVariants.{EmptyIndex, EmptyOn, BraceName, ManyInGroup, SumRange}
use Rattle.tb_value.specs.declared.error.InvalidCause.TheVariants.{BothNone, HeaderType, AggType}
use Rattle.tb_value.specs.declared.error.PolarsError.{PolarsError}
use Rattle.tb_value.specs.declared.error.PolarsError.TheVariants.{ComputeError, InvalidOperation}
use Rattle.tb_frame.specs.Promise.Naming.{is_among}
use Rattle.tb_frame.specs.Promise.Refusal.{repeated_among, unknown_key}
use Rattle.tb_frame.specs.Promise.Table.{TableColumn, Table, names_of}
use Rattle.tb_label.specs.Promise.Label.{is_header}
use Rattle.tb_rows.specs.Promise.Rows.{row_value}
use Rattle.tb_agg.specs.Promise.Aggregates.{result_kind, sum_kind, total}
use Rattle.tb_agg.specs.Promise.Outcome.{are_in_range}
use Rattle.tb_agg.specs.declared.table.Aggregate.TheVariants.{Sum}
use Rattle.tb_pivot.specs.Promise.Headers.{brace_name}
use Rattle.tb_pivot.specs.Promise.Pivot.{are_alike, answered_column, distinct_rows, key_columns, wide}
use Rattle.tb_pivot.specs.Promise.Request.{Chosen, Request, Way, one_row, aggregated, asked, chosen, index_names, value_names}
use Rattle.tb_frame.specs.Promise.Join.{columns_named}

-- NAMES

-- 1 neither index nor values are named
abbrev pub both_none : Request → Option PolarsError
both_none q = when (is_none q.index && is_none q.values) (InvalidOperation BothNone)

-- 2, 3 no index column, and no column for headers
abbrev pub none_named : List Name → PolarsError → Option PolarsError
none_named [] e = Some e
none_named (n ∷ ns) e = None

-- 6 several columns become headers, and a column has the name that is kept for them
abbrev pub brace_taken : Table → List Name → Option PolarsError
brace_taken t on = when (nat_lt 1 (length on) && is_among (names_of t) (brace_name on))
    (ComputeError (BraceName (brace_name on)))

-- TYPES

-- 7 the first column for headers whose values have no header texts
abbrev pub header_cause : List TableColumn → Option PolarsError
header_cause cs = option_map (λ (c : TableColumn). InvalidOperation (HeaderType c.name))
    (find (λ (c : TableColumn). not (is_header c.kind)) cs)

-- 8 the first value column whose type the aggregate does not take
abbrev pub has_no_kind : Way → TableColumn → Bool
has_no_kind (aggregated agg) v = is_none (result_kind agg v.kind)
has_no_kind way v = false

abbrev pub agg_cause : Way → List TableColumn → Option PolarsError
agg_cause way vs =
    option_map (λ (c : TableColumn). InvalidOperation (AggType c.name)) (find (has_no_kind way) vs)

-- VALUES

-- 9 a cell is to have one row, there is a value column, and there are more rows than cells with rows
abbrev pub is_one_row : Way → Bool
is_one_row one_row = true
is_one_row way = false

abbrev pub many_cause : Chosen → Option PolarsError
many_cause q = when
    (is_one_row q.way
    && (nat_lt 0 (length q.values)
    && nat_lt (length (distinct_rows q (key_columns q))) q.height))
    (ComputeError ManyInGroup)

-- 10 the first value column of which the sum for a cell is outside the range of its type
abbrev pub sums_of : Chosen → TableColumn → List ℕ → Bool
sums_of q v firsts = are_in_range (sum_kind v.kind)
    (map
    (λ x.
    total
    (map (row_value v.values)
    (filter (are_alike (key_columns q) x) (row_numbers q.height))))
    firsts)

abbrev pub is_out_of_range : Chosen → Way → TableColumn → Bool
is_out_of_range q (aggregated Sum) v = not (sums_of q v (distinct_rows q (key_columns q)))
is_out_of_range q way v = false

abbrev pub range_cause : Chosen → Option PolarsError
range_cause q = option_map (λ (c : TableColumn). ComputeError (SumRange c.name))
    (find (is_out_of_range q q.way) q.values)

-- 11 the first refusal of a caller's object
abbrev pub refused_by : Result TableColumn PolarsError → Option PolarsError
refused_by (Ok c) = None
refused_by (Err e) = Some e

abbrev pub way_cause : Chosen → Way → TableColumn → Option PolarsError
way_cause q (asked name answers) v = refused_by (answered_column q v name answers)
way_cause q way v = None

abbrev pub answer_cause : Chosen → Option PolarsError
answer_cause q = first_cause (map (way_cause q q.way) q.values)

-- THE REFUSAL

-- 4 to 8 unknown names, repeated ones, and what is said of the columns of these names
abbrev pub column_causes : Table → List Name → List Name → List Name → Way
    → List (Option PolarsError)
column_causes t on index values way =
    unknown_key t on ∷ unknown_key t index ∷ unknown_key t values
    ∷ repeated_among (on ++ index) ∷ repeated_among values
    ∷ brace_taken t on
    ∷ header_cause (columns_named t on)
    ∷ agg_cause way (columns_named t values)
    ∷ []

-- 9 to 12 what is said of values, and of the names of the answer
abbrev pub value_causes : Chosen → List (Option PolarsError)
value_causes q =
    many_cause q ∷ range_cause q ∷ answer_cause q ∷ repeated_among (names_of (wide q)) ∷ []

abbrev pub pivot_causes : Request → List (Option PolarsError)
pivot_causes q =
    both_none q
    ∷ none_named (index_names q) (ComputeError EmptyIndex)
    ∷ none_named q.on (ComputeError EmptyOn)
    ∷ column_causes q.table q.on (index_names q) (value_names q) q.way
    ++ value_causes (chosen q)

abbrev pub pivot_refusal : Request → Option PolarsError
pivot_refusal q = first_cause (pivot_causes q)
