use Rattle.std.proofs.Common.{List, subst}
use Rattle.std.specs.Prelude.{All, IfOk}
use Rattle.tb_chunk.specs.Promise.Col.{Col}
use Rattle.tb_delta.specs.Running.{steps_of}
use Rattle.tb_delta_front.specs.Promise.Steps.{Fits}
use Rattle.tb_delta_front.proofs.StepRows.{schema}
use Rattle.tb_delta_front.proofs.step_reading.steps_of.Goals as goal

pub returns-clause-fit : goal.returns-clause-fit
returns-clause-fit c =
    let left = c.in_ok-left.left.columns.now in
    subst (λ (ls : List Col). IfOk c.steps_on.result (λ v. All (Fits (schema ls) (schema c.args.right.now)) (steps_of v.items))) c.in_ok-left.ensures
    (subst (λ (rs : List Col). IfOk c.steps_on.result (λ v. All (Fits (schema left) (schema rs)) (steps_of v.items))) c.in_ok-right.ensures c.steps_on.ensures.fit)
