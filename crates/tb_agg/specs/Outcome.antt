-- The column of an aggregate, and why there is none.
use Rattle.std.specs.Prelude.{ℤ, not, List, [], ◌∷◌, length, map, Option, None, is_none, IsSomeAnd}
use Rattle.tb_value.specs.Promise.Datum.{Datum}
use Rattle.tb_value.specs.Promise.Kind.{Kind}
use Rattle.tb_value.specs.Promise.Pairs.{row_numbers}
use Rattle.tb_value.specs.Promise.Refusals.{first_cause, when}
use Rattle.tb_value.specs.declared.error.ComputeCause.TheVariants.{SumRange}
use Rattle.tb_value.specs.declared.error.InvalidCause.TheVariants.{AggType}
use Rattle.tb_value.specs.declared.error.PolarsError.{PolarsError}
use Rattle.tb_value.specs.declared.error.PolarsError.TheVariants.{ComputeError, InvalidOperation}
use Rattle.tb_value.specs.declared.sorted.IsSorted.TheVariants.{Not}
use Rattle.tb_chunk.specs.Promise.Col.{Col, values}
use Rattle.tb_chunk.specs.Made.{IsOf}
use Rattle.tb_rows.specs.declared.groups.Groups.{Groups}
use Rattle.tb_agg.specs.Promise.Aggregates.{result_kind, sum_kind, total}
use Rattle.tb_agg.specs.Grouped.{aggregates, values_of}
use Rattle.tb_agg.specs.declared.table.Aggregate.{Aggregate}
use Rattle.tb_agg.specs.declared.table.Aggregate.TheVariants.{Sum}
use Rattle.tb_agg.specs.Promise.Outcome.{are_in_range}

-- the exact sum of each group
abbrev pub totals : Groups → List Datum → List ℤ
totals g vs =
    map (λ k. total (values_of g.numbers.items vs k)) (row_numbers (length g.firsts.items))

-- why there is no column of the aggregate: it does not take the type, or a sum is outside the range of its type
abbrev pub type_cause : Aggregate → Col → Option PolarsError
type_cause agg c = when (is_none (result_kind agg c.kind)) (InvalidOperation (AggType c.name))

abbrev pub range_cause : Aggregate → Groups → Col → Option PolarsError
range_cause Sum g c = when (not (are_in_range (sum_kind c.kind) (totals g (values c))))
    (ComputeError (SumRange c.name))
range_cause _ g c = None

abbrev pub agg_refusal : Aggregate → Groups → Col → Option PolarsError
agg_refusal agg g c = first_cause (type_cause agg c ∷ range_cause agg g c ∷ [])

-- a column of one value for each group, under the same name
abbrev pub IsAggColumn : Aggregate → Groups → Col → Kind → Col → Type 0
IsAggColumn agg g c t made = IsOf c.name t (aggregates agg g (values c) ∷ []) Not made

abbrev pub IsAggregated : Aggregate → Groups → Col → Col → Type 0
IsAggregated agg g c made = IsSomeAnd (result_kind agg c.kind) (λ t. IsAggColumn agg g c t made)
