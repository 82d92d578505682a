-- The row whose value stands for a group.
use Rattle.std.specs.Prelude.{ℕ, Bool, true, false, List, fold, Option, Some, None, is_none, if◌then◌else◌}
use Rattle.tb_value.specs.Promise.Datum.{Datum}
use Rattle.tb_chunk.specs.Rows.{value_or_null}
use Rattle.tb_rows.specs.Promise.Rows.{row_value}
use Rattle.tb_agg.specs.Promise.Aggregates.{beats}
use Rattle.tb_agg.specs.declared.table.Aggregate.{Aggregate}
use Rattle.tb_agg.specs.declared.table.Aggregate.TheVariants.{First, Last, Min, Max}
use Rattle.tb_agg.specs.declared.picks.Pick.{Pick}
use Rattle.tb_agg.specs.declared.picks.Pick.TheVariants.{FirstRow, LastRow, LeastValue, GreatestValue}

-- whether a row takes the place of the one that stands so far
abbrev pub replaces : Pick → List Datum → Option ℕ → ℕ → Bool
replaces FirstRow vs best row = is_none best
replaces LastRow vs best row = true
replaces LeastValue vs best row = beats false (value_or_null vs best) (row_value vs row)
replaces GreatestValue vs best row = beats true (value_or_null vs best) (row_value vs row)

abbrev pub next_pick : Pick → List Datum → Option ℕ → ℕ → Option ℕ
next_pick pick vs best row = (if replaces pick vs best row then Some row else best)

-- the row that stands for rows in the end
abbrev pub picked_row : Pick → List Datum → List ℕ → Option ℕ
picked_row pick vs rows = fold (next_pick pick vs) None rows

-- the aggregate whose values are those of the rows that are picked so
abbrev pub aggregate_of : Pick → Aggregate
aggregate_of FirstRow = First
aggregate_of LastRow = Last
aggregate_of LeastValue = Min
aggregate_of GreatestValue = Max
