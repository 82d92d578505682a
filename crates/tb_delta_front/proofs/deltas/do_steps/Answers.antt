use Rattle.std.proofs.Common.{◌∙◌, List, ℕ, sym, subst}
use Rattle.tb_delta.specs.Promise.Steps.{Step}
use Rattle.tb_delta.specs.Running.{step_of, steps_of}
use Rattle.tb_delta.specs.declared.running.Step.{Step as RustStep}
use Rattle.tb_delta_front.specs.Deltas.{changes_of}
use Rattle.tb_delta_front.specs.Keeping.{IsLeft}
use Rattle.tb_front.proofs.Each.{none_left}
use Rattle.tb_delta_front.proofs.KeptSteps.{all_done, all_left, one_done, one_fits, one_refused}
use Rattle.tb_delta_front.proofs.deltas.do_steps.Goals as goal

pub loop-step-init : goal.loop-step-init
loop-step-init c =
    let s = c.args.run.now in
    let all : List Step = steps_of c.args.steps.items in
    let old = changes_of c.args.changes.now.items in
    subst (λ (xs : List RustStep). IsLeft c.args.keeps s all old 1 s (steps_of xs) old) (sym c.into_iter-step-iterator.ensures.into_iter_gives.0) (all_left c.args.keeps s all old c.requires)

pub do_step-requires : goal.do_step-requires
do_step-requires c =
    let k = c.args.keeps in
    let s = c.args.run.now in
    let all : List Step = steps_of c.args.steps.items in
    let old = changes_of c.args.changes.now.items in
    let now = changes_of c.loop-step.changes.items in
    one_fits k s all old c.loop-step.line c.loop-step.run (step_of c.in-Some.step) (steps_of c.next.new.self.rest.items) now
    (subst (λ (xs : List RustStep). IsLeft k s all old c.loop-step.line c.loop-step.run (steps_of xs) now) c.in-Some.ensures.steps.0 c.loop-step.invariant)

pub loop-step-preserved : goal.loop-step-preserved
loop-step-preserved c =
    let k = c.args.keeps in
    let s = c.args.run.now in
    let all : List Step = steps_of c.args.steps.items in
    let old = changes_of c.args.changes.now.items in
    let now = changes_of c.loop-step.changes.items in
    let more = changes_of c.do_step.new.changes.items in
    let rest : List Step = steps_of c.next.new.self.rest.items in
    let left = subst (λ (xs : List RustStep). IsLeft k s all old c.loop-step.line c.loop-step.run (steps_of xs) now) c.in-Some.ensures.steps.0 c.loop-step.invariant in
    subst (λ (n : ℕ). IsLeft k s all old n c.do_step.new.run rest more) (sym c.in_ok-next.ensures)
    (one_done k s all old c.loop-step.line c.loop-step.run c.do_step.new.run (step_of c.in-Some.step) rest now more left c.in-Ok.ensures.0 c.in-Ok.ensures.1 c.in-Ok.ensures.2)

pub returns-in-Err-clause-settles : goal.returns-in-Err-clause-settles
returns-in-Err-clause-settles c =
    let k = c.args.keeps in
    let s = c.args.run.now in
    let all : List Step = steps_of c.args.steps.items in
    let old = changes_of c.args.changes.now.items in
    let now = changes_of c.loop-step.changes.items in
    one_refused k s all old c.loop-step.line c.loop-step.run (step_of c.in-Some.step) (steps_of c.next.new.self.rest.items) now c.in-Err.fault
    (subst (λ (xs : List RustStep). IsLeft k s all old c.loop-step.line c.loop-step.run (steps_of xs) now) c.in-Some.ensures.steps.0 c.loop-step.invariant) c.in-Err.ensures

pub returns : goal.returns
returns c =
    let k = c.args.keeps in
    let s = c.args.run.now in
    let all : List Step = steps_of c.args.steps.items in
    let old = changes_of c.args.changes.now.items in
    let now = changes_of c.loop-step.changes.items in
    let empty = none_left c.loop-step.step-iterator.rest.items (sym c.loop-step.step-iterator.rest.ok.0 ∙ c.in-None.ensures.steps.0) in
    let done = all_done k s all old c.loop-step.line c.loop-step.run now (subst (λ (xs : List RustStep). IsLeft k s all old c.loop-step.line c.loop-step.run (steps_of xs) now) empty c.loop-step.invariant) in
    record { settles = done.0; state = done.1; told = done.2 }
