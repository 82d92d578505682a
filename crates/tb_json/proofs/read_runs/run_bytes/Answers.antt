use Rattle.std.proofs.Common.{ap, arith}
use Rattle.tb_tree.specs.View.{item_view}
use Rattle.tb_value.specs.Promise.Kind as kind
use Rattle.tb_json.specs.Promise.Cells.{cell_in}
use Rattle.tb_json.proofs.Pushed.{is_pushed, not_pushed}
use Rattle.tb_json.proofs.RunWalks.{RunsWalk-start, RunsWalk-more, RunsWalk-fails}
use Rattle.tb_json.proofs.read_runs.run_bytes.Goals as goal

pub loop-run-init : goal.loop-run-init
loop-run-init c = rw (ap (λ b. b.rows) c.in_ok-builder.ensures) (RunsWalk-start kind.binary c.args.runs.now)

pub returns-then-not-branch-clause-values : goal.returns-then-not-branch-clause-values
returns-then-not-branch-clause-values c =
    RunsWalk-fails kind.binary c.args.runs.now _ _ _ _ _ c.loop-run-test.true c.run-item.is c.lent_run-times.ensures.value c.lent_run-times.ensures.times (not_pushed _ (cell_in kind.binary (item_view c.lent_run-times.result.0)) c.in_ok-push_bytes.field-0 c.in_ok-push_bytes.ensures c.if-not-branch.true) c.loop-run.invariant

pub loop-run-preserved : goal.loop-run-preserved
loop-run-preserved c =
    let p = is_pushed _ (cell_in kind.binary (item_view c.lent_run-times.result.0)) c.in_ok-push_bytes.field-0 c.in_ok-push_bytes.ensures c.if-not-branch.false in
    rw p.2 (RunsWalk-more kind.binary c.args.runs.now _ _ _ _ _ p.0 c.loop-run-test.true c.run-item.is c.lent_run-times.ensures.value c.lent_run-times.ensures.times p.1 c.loop-run.invariant)
