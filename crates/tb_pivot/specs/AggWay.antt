-- The way in which cells are made by what a caller hands in.
use Rattle.std.specs.Prelude.{ℕ, List, Option, Some, None, Result}
use Rattle.tb_value.specs.Promise.Names.{Name}
use Rattle.tb_frame.specs.Promise.Table.{Table, TableColumn}
use Rattle.tb_agg.specs.declared.table.Aggregate.{Aggregate}
use Rattle.tb_agg.specs.declared.table.Aggregate.TheVariants as agg
use Rattle.tb_pivot.specs.Promise.Request.{Way, one_row, aggregated, asked}
use Rattle.tb_pivot.specs.declared.expr.PivotAgg.{PivotAgg}
use Rattle.tb_pivot.specs.declared.expr.PivotAgg.TheVariants as code

-- the aggregate, where it is no object of the caller's
abbrev pub aggregate_of : {D : Type 0} {H : D → Type 0} → PivotAgg D H → Option Aggregate
aggregate_of code.First = Some agg.First
aggregate_of code.Sum = Some agg.Sum
aggregate_of code.Min = Some agg.Min
aggregate_of code.Max = Some agg.Max
aggregate_of code.Count = Some agg.Count
aggregate_of code.Last = Some agg.Last
aggregate_of (code.Expr b) = None

-- of an object it is what its calls answer
abbrev pub agg_way : {D : Type 0} {H : D → Type 0} → ((d : D) → H d → Result Name ℕ)
    → ((d : D) → H d → Table → List ℕ → List ℕ → Result TableColumn ℕ) → PivotAgg D H → Way
agg_way named answers code.First = aggregated agg.First
agg_way named answers code.Sum = aggregated agg.Sum
agg_way named answers code.Min = aggregated agg.Min
agg_way named answers code.Max = aggregated agg.Max
agg_way named answers code.Count = aggregated agg.Count
agg_way named answers code.Last = aggregated agg.Last
agg_way named answers (code.Expr b) = asked (named b.vtable b.value) (answers b.vtable b.value)

-- the value of the one row where nothing is handed in
abbrev pub way_or_row : Option Way → Way
way_or_row None = one_row
way_or_row (Some way) = way
