use Rattle.std.proofs.Common.{◌≡◌, ◌∙◌, ◌++◌, [], Some, Ok, ap, subst, sym}
use Rattle.std.specs.Prelude.{All}
use mathlib.Core.Logic.{◌⊎◌}
use Rattle.tb_delta.specs.Promise.State.{State}
use Rattle.tb_delta.specs.Promise.Steps.{after}
use Rattle.tb_delta.specs.Running.{steps_of}
use Rattle.tb_delta_front.specs.Deltas.{changes_of}
use Rattle.tb_delta_front.specs.Promise.Deltas.{changes, steps_fault}
use Rattle.tb_delta_front.specs.Promise.Steps.{Fits}
use Rattle.tb_front.specs.declared.fault.FrontFault.TheVariants.{OutOfMemory}
use Rattle.tb_front.proofs.Dues.{stopped_by}
use Rattle.tb_delta_front.proofs.KeptJoins.{all_kept}
use Rattle.tb_delta_front.proofs.deltas.kept_view.Goals as goal

pub do_steps-requires : goal.do_steps-requires
do_steps-requires c = subst (λ (s : State). All (Fits s.left.columns s.right.columns) (steps_of c.args.steps.items)) (sym c.new-run.ensures) c.requires

pub returns-in-Ok : goal.returns-in-Ok
returns-in-Ok c =
    let s : State = c.args.view in
    let xs = steps_of c.args.steps.items in
    let none : changes_of c.new-changes.result.items ≡ [] = ap changes_of c.new-changes.ensures.items in
    let first : c.new-run.result ≡ s = c.new-run.ensures in
    all_kept c.args.keeps s xs (record { view = c.into_view.result; changes = c.do_steps.new.changes })
    (ap (λ (t : State). steps_fault 1 t xs) (sym first) ∙ c.in-Ok.ensures.settles)
    (record {
      state = c.into_view.ensures ∙ c.in-Ok.ensures.state ∙ ap (λ (t : State). after t xs) first;
      told = λ k. c.in-Ok.ensures.told k ∙ (λ i. none i ++ changes 1 (first i) xs);
    })

pub returns-in-Err : goal.returns-in-Err
returns-in-Err c =
    let xs = steps_of c.args.steps.items in
    stopped_by (steps_fault 1 c.args.view xs) (Ok (c.args.view, xs)) c.in-Err.fault
    (subst (λ (t : State). (c.in-Err.fault ≡ OutOfMemory) ⊎ (steps_fault 1 t xs ≡ Some c.in-Err.fault)) c.new-run.ensures c.in-Err.ensures.settles)
