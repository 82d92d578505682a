-- Columns of aggregates, and when they are refused, in other words.
use Rattle.std.proofs.Common.{◌≡◌, [], ◌∷◌, not, IsSomeAnd, Result, IfOk, refl, ap, subst}
use Rattle.std.proofs.lemmas.List.{append-nil}
use Rattle.tb_value.specs.Promise.Refusals.{when}
use Rattle.tb_value.specs.declared.error.ComputeCause.TheVariants.{SumRange}
use Rattle.tb_value.specs.declared.error.PolarsError.{PolarsError}
use Rattle.tb_value.specs.declared.error.PolarsError.TheVariants.{ComputeError}
use Rattle.tb_value.specs.declared.sorted.IsSorted.TheVariants.{Not}
use Rattle.tb_chunk.specs.Promise.Col.{Col, values}
use Rattle.tb_chunk.specs.Lent.{in_one_chunk}
use Rattle.tb_chunk.specs.Made.{IsOf}
use Rattle.tb_rows.specs.declared.groups.Groups.{Groups}
use Rattle.tb_agg.specs.Promise.Aggregates.{result_kind, sum_kind}
use Rattle.tb_agg.specs.Grouped.{aggregates}
use Rattle.tb_agg.specs.Promise.Outcome.{are_in_range}
use Rattle.tb_agg.specs.Outcome.{range_cause, totals, IsAggregated}
use Rattle.tb_agg.specs.declared.table.Aggregate.{Aggregate}
use Rattle.tb_agg.specs.declared.table.Aggregate.TheVariants.{First, Last, Sum, Min, Max, Count}

-- a column in one chunk is refused as it was, and its aggregates are the same
pub whole_cause : (agg : Aggregate) (g : Groups) (c : Col) → range_cause agg g (in_one_chunk c) ≡ range_cause agg g c
whole_cause First g c = refl
whole_cause Last g c = refl
whole_cause Min g c = refl
whole_cause Max g c = refl
whole_cause Count g c = refl
whole_cause Sum g c = ap (λ vs. when (not (are_in_range (sum_kind c.kind) (totals g vs))) (ComputeError (SumRange c.name))) (append-nil (values c))

pub whole_made : (agg : Aggregate) (g : Groups) (c : Col) (r : Result Col PolarsError) → IfOk r (IsAggregated agg g (in_one_chunk c)) → IfOk r (IsAggregated agg g c)
whole_made agg g c r h =
    subst (λ vs. IfOk r (λ made. IsSomeAnd (result_kind agg c.kind) (λ t. IsOf c.name t (aggregates agg g vs ∷ []) Not made))) (append-nil (values c)) h
