use Rattle.std.proofs.Common.{◌∙◌, ◌+◌, ◌&&◌, ap, drop, is_some, map, sym}
use Rattle.tb_value.specs.SeeKind.{kind_of}
use Rattle.tb_json.specs.Promise.Lists.{each}
use Rattle.tb_request.specs.Promise.Columns.{run_in}
use Rattle.tb_request.specs.Lent.{run_view}
use Rattle.tb_request.proofs.EachRun.{typed_next}
use Rattle.tb_request.proofs.values.are_of.Goals as goal

pub returns-then-not-branch : goal.returns-then-not-branch
returns-then-not-branch c =
    let t = kind_of c.args.dtype.now in
    sym (c.loop-run.invariant
    ∙ typed_next t c.args.runs.now c.loop-run.run-index _ _ c.loop-run-test.true c.run-item.is c.in_ok-is_of.ensures
    ∙ ap (λ b. b && is_some (each (run_in t) (map run_view (drop (c.loop-run.run-index + 1) c.args.runs.now)))) c.if-not-branch.true)

pub loop-run-preserved : goal.loop-run-preserved
loop-run-preserved c =
    let t = kind_of c.args.dtype.now in
    c.loop-run.invariant
    ∙ typed_next t c.args.runs.now c.loop-run.run-index _ _ c.loop-run-test.true c.run-item.is c.in_ok-is_of.ensures
    ∙ ap (λ b. b && is_some (each (run_in t) (map run_view (drop (c.loop-run.run-index + 1) c.args.runs.now)))) c.if-not-branch.false
