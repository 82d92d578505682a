use Rattle.std.proofs.Common.{◌∙◌, ◌≤◌, List, None, length, map, sym, subst, arith}
use Rattle.std.specs.Prelude.{All}
use Rattle.tb_value.specs.declared.error.ComputeCause.TheVariants.{TooManyRows}
use Rattle.tb_value.specs.declared.error.PolarsError.TheVariants.{ComputeError}
use Rattle.tb_value.specs.declared.index.JoinPair.{JoinPair}
use Rattle.tb_value.specs.declared.limits.TheConstants.{MAX_ROWS}
use Rattle.tb_frame.specs.declared.args.JoinType.TheVariants.{Left}
use Rattle.tb_frame.specs.Answer.{IsPairOf}
use Rattle.tb_frame.specs.Frame.{opt_taken_rows, without_names}
use Rattle.tb_frame.specs.Promise.Join.{listing}
use Rattle.tb_frame.specs.Promise.Refusal.{row_causes}
use Rattle.tb_frame.specs.Promise.Table.{height}
use Rattle.tb_frame.proofs.Assembled.{few_listed, pairs_in_range}
use Rattle.tb_frame.proofs.Causes.{no_cause, when_not_above}
use Rattle.tb_dispatch.specs.Given.{by_series}
use Rattle.tb_dispatch.proofs.KeyColumns.{alike_one}
use Rattle.tb_dispatch.proofs.left.materialize_left_join_from_series.Goals as goal

pub listed_pairs-requires-clause-alike : goal.listed_pairs-requires-clause-alike
listed_pairs-requires-clause-alike g c κs within = alike_one c.args.s_left.now c.args.s_right.now c.requires.keys.types

pub halves-requires-clause-pairs : goal.halves-requires-clause-pairs
halves-requires-clause-pairs g c κs within =
    let q = by_series Left c.args.left c.args.right_.now c.args.s_left.now c.args.s_right.now c.args.args.now in
    subst (λ (ps : List JoinPair). All (IsPairOf (height q.left) (height q.right)) ps) (sym c.deref.ensures.value) (pairs_in_range q c.in_ok-pairs.pairs.items c.in_ok-pairs.ensures.listed)

pub halves-requires-clause-few : goal.halves-requires-clause-few
halves-requires-clause-few g c κs within =
    let q = by_series Left c.args.left c.args.right_.now c.args.s_left.now c.args.s_right.now c.args.args.now in
    let few = when_not_above MAX_ROWS (length (listing q)) (ComputeError TooManyRows) (no_cause (row_causes q) c.in_ok-pairs.ensures.settles 2 None (omega arith)) in
    subst (λ (ps : List JoinPair). length ps ≤ MAX_ROWS) (sym c.deref.ensures.value) (few_listed q c.in_ok-pairs.pairs.items few c.in_ok-pairs.ensures.listed)

pub returns-clause-halves : goal.returns-clause-halves
returns-clause-halves g c = record {
  pairs = c.in_ok-pairs.pairs.items;
  listed = c.in_ok-pairs.ensures.listed;
  over = (
    c.in_ok-halves.ensures.0 ∙ (λ t. map (opt_taken_rows (map (λ (p : JoinPair). p.left) (c.deref.ensures.value t))) c.args.left),
    c.in_ok-halves.ensures.1 ∙ (λ t. map (opt_taken_rows (map (λ (p : JoinPair). p.right) (c.deref.ensures.value t))) (without_names (c.dropped-gone.ensures t) c.args.right_.now)),
  );
}
