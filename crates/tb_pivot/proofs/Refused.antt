-- Why there are no values for groups, as a pivot is refused.
use Rattle.std.proofs.Common.{◌≡◌, ◌∙◌, ℤ, true, not, List, [], ◌∷◌, length, Option, Some, None, is_none, is_some, refl, sym, ap}
use Rattle.tb_value.specs.Promise.Kind.{Kind}
use Rattle.tb_value.specs.Promise.Refusals.{first_cause, when}
use Rattle.tb_value.specs.declared.error.ComputeCause.TheVariants.{SumRange}
use Rattle.tb_value.specs.declared.error.InvalidCause.TheVariants.{AggType}
use Rattle.tb_value.specs.declared.error.PolarsError.{PolarsError}
use Rattle.tb_value.specs.declared.error.PolarsError.TheVariants.{ComputeError, InvalidOperation}
use Rattle.tb_chunk.specs.Promise.Col.{Col, values}
use Rattle.tb_frame.specs.Promise.Table.{plain_column}
use Rattle.tb_agg.specs.Promise.Aggregates.{result_kind, sum_kind}
use Rattle.tb_agg.specs.Promise.Outcome.{are_in_range}
use Rattle.tb_agg.specs.Outcome.{range_cause}
use Rattle.tb_agg.specs.declared.table.Aggregate.{Aggregate}
use Rattle.tb_agg.specs.declared.table.Aggregate.TheVariants.{First, Last, Sum, Min, Max, Count}
use Rattle.tb_pivot.specs.Cells.{AreCells}
use Rattle.tb_pivot.specs.Made.{made_cause, takes}
use Rattle.tb_pivot.specs.Promise.Pivot.{answered_column}
use Rattle.tb_pivot.specs.Promise.Refusal.{is_out_of_range, refused_by, way_cause}
use Rattle.tb_pivot.specs.Promise.Request.{Chosen, Way, one_row, aggregated, asked}
use Rattle.tb_pivot.specs.declared.cells.Cells.{Cells}
use Rattle.tb_pivot.proofs.Cell.{answers_are, totals_are}

-- the second of two causes alone, and the first alone
second_alone : (o : Option PolarsError) → first_cause (None ∷ o ∷ []) ≡ o
second_alone None = refl
second_alone (Some e) = refl

first_alone : (o : Option PolarsError) → first_cause (o ∷ None ∷ []) ≡ o
first_alone None = refl
first_alone (Some e) = refl

typed : (o : Option Kind) (e : PolarsError) (cause : Option PolarsError) → is_some o ≡ true → first_cause (when (is_none o) e ∷ cause ∷ []) ≡ cause
typed None e cause taken = absurd (cc)
typed (Some t) e cause taken = second_alone cause

module _ (q : Chosen) (c : Cells) (v : Col) (cells : AreCells q.height q.index q.on c) (high : length (values v) ≡ q.height) where
  range_is : (agg : Aggregate) → range_cause agg c.groups v ≡ when (is_out_of_range q (aggregated agg) (plain_column v)) (ComputeError (SumRange v.name))
  range_is First = refl
  range_is Last = refl
  range_is Min = refl
  range_is Max = refl
  range_is Count = refl
  range_is Sum = ap (λ (sums : List ℤ). when (not (are_in_range (sum_kind v.kind) sums)) (ComputeError (SumRange v.name))) (totals_are q c v cells high)

  -- a sum that is outside the range of its type, or the refusal of a caller's object
  pub cause_is : (w : Way) → takes w v.kind ≡ true → made_cause w c.groups v ≡ first_cause (when (is_out_of_range q w (plain_column v)) (ComputeError (SumRange v.name)) ∷ way_cause q w (plain_column v) ∷ [])
  cause_is one_row taken = refl
  cause_is (aggregated agg) taken =
      typed (result_kind agg v.kind) (InvalidOperation (AggType v.name)) (range_cause agg c.groups v) taken
      ∙ range_is agg
      ∙ sym (first_alone (when (is_out_of_range q (aggregated agg) (plain_column v)) (ComputeError (SumRange v.name))))
  cause_is (asked name answers) taken =
      ap refused_by (sym (answers_are q c v cells name answers))
      ∙ sym (second_alone (refused_by (answered_column q (plain_column v) name answers)))
