use Rattle.std.proofs.Common.{◌∙◌, sym, ap, map, drop, ◌&&◌, ◌+◌}
use Rattle.tb_json.specs.Runs.{run_view}
use Rattle.tb_json.proofs.RunWalks.{are_null, nulls_next}
use Rattle.tb_json.proofs.read_runs.are_null_runs.Goals as goal

pub returns-then-not-is_null : goal.returns-then-not-is_null
returns-then-not-is_null c =
    sym (c.loop-run.invariant
    ∙ nulls_next c.args.runs.now c.loop-run.run-index _ _ _ c.loop-run-test.true c.run-item.is c.lent_run.ensures.value c.is_null.ensures
    ∙ ap (λ b. b && are_null (map run_view (drop (c.loop-run.run-index + 1) c.args.runs.now))) c.if-not-is_null.true)

pub loop-run-preserved : goal.loop-run-preserved
loop-run-preserved c =
    c.loop-run.invariant
    ∙ nulls_next c.args.runs.now c.loop-run.run-index _ _ _ c.loop-run-test.true c.run-item.is c.lent_run.ensures.value c.is_null.ensures
    ∙ ap (λ b. b && are_null (map run_view (drop (c.loop-run.run-index + 1) c.args.runs.now))) c.if-not-is_null.false
