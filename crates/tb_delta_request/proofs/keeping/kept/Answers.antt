use Rattle.std.proofs.Common.{◌≡◌, ◌⊎◌, ◌∙◌, None, Some, ap, sym, subst}
use Rattle.std.proofs.lemmas.Result.{err_from_is_err_and}
use Rattle.tb_value.specs.declared.error.PolarsError.{PolarsError}
use Rattle.tb_value.specs.declared.error.PolarsError.TheVariants.{OutOfMemory}
use Rattle.tb_frame.specs.Promise.Join.{IsAnswer}
use Rattle.tb_frame.specs.Promise.Refusal.{too_many_rows}
use Rattle.tb_frame.specs.Promise.Table.{table_of}
use Rattle.tb_delta.specs.Promise.Now.{now, view_refusal}
use Rattle.tb_delta.specs.Promise.State.{State}
use Rattle.tb_delta.specs.Promise.Steps.{AreAccepted, after, told_each}
use Rattle.tb_delta.specs.Running.{IsStopped, steps_of}
use Rattle.tb_delta.specs.declared.running.StepFault.{StepFault}
use Rattle.tb_delta_request.specs.Promise.Answers.{delta_refusal, end_of}
use Rattle.tb_delta_request.specs.Promise.Reading.{DeltaRequest, asked_view, delta_view}
use Rattle.tb_delta_request.proofs.Outcomes.{passes, step_fails, table_fails, view_fails, view_unlaid}
use Rattle.tb_delta_request.proofs.keeping.kept.Goals as goal

pub returns-in_err-view-clause-settles : goal.returns-in_err-view-clause-settles
returns-in_err-view-clause-settles g c =
    let r : DeltaRequest = delta_view c.args.request in
    let p = err_from_is_err_and c.from_residual.result c.from_residual.ensures.1 in
    let e : PolarsError = c.in_err-view.field-0.0 in
    rw (p.1, p.2) (view_fails r e (subst (λ (s : State). (e ≡ OutOfMemory) ⊎ (view_refusal s ≡ Some e)) (sym (view_unlaid c.args.request)) c.in_err-view.ensures.settles))

pub returns-in_err-partners-clause-settles : goal.returns-in_err-partners-clause-settles
returns-in_err-partners-clause-settles g c =
    let r : DeltaRequest = delta_view c.args.request in
    let is : asked_view r ≡ c.in_ok-view.view = view_unlaid c.args.request ∙ sym c.in_ok-view.ensures.given in
    let none : view_refusal (asked_view r) ≡ None = ap view_refusal (view_unlaid c.args.request) ∙ c.in_ok-view.ensures.settles in
    let p = err_from_is_err_and c.from_residual-in_err-partners.result c.from_residual-in_err-partners.ensures.1 in
    let f : StepFault = c.in_err-partners.field-0.0 in
    rw (p.1, p.2) (step_fails r c.do_steps.new.view f c.requires.fitting none (subst (λ (s : State). IsStopped s (steps_of c.args.request.steps.items) c.do_steps.new.view f) (sym is) c.in_err-partners.ensures))

pub returns-in_err-table-clause-settles : goal.returns-in_err-table-clause-settles
returns-in_err-table-clause-settles g c =
    let r : DeltaRequest = delta_view c.args.request in
    let steps = steps_of c.args.request.steps.items in
    let is : asked_view r ≡ c.in_ok-view.view = view_unlaid c.args.request ∙ sym c.in_ok-view.ensures.given in
    let none : view_refusal (asked_view r) ≡ None = ap view_refusal (view_unlaid c.args.request) ∙ c.in_ok-view.ensures.settles in
    let done : AreAccepted (asked_view r) steps = subst (λ (s : State). AreAccepted s steps) (sym is) c.in_ok-partners.ensures.0 in
    let end : c.do_steps.new.view ≡ end_of r = c.in_ok-partners.ensures.1 ∙ ap (λ (s : State). after s steps) (sym is) in
    let p = err_from_is_err_and c.from_residual-in_err-table.result c.from_residual-in_err-table.ensures.1 in
    let e : PolarsError = c.in_err-table.field-0.0 in
    rw (p.1, p.2) (table_fails r e none done (subst (λ (s : State). (e ≡ OutOfMemory) ⊎ (too_many_rows (now s) ≡ Some e)) end c.in_err-table.ensures.settles))

pub returns-clause-settles : goal.returns-clause-settles
returns-clause-settles g c =
    let r : DeltaRequest = delta_view c.args.request in
    let steps = steps_of c.args.request.steps.items in
    let is : asked_view r ≡ c.in_ok-view.view = view_unlaid c.args.request ∙ sym c.in_ok-view.ensures.given in
    let none : view_refusal (asked_view r) ≡ None = ap view_refusal (view_unlaid c.args.request) ∙ c.in_ok-view.ensures.settles in
    let done : AreAccepted (asked_view r) steps = subst (λ (s : State). AreAccepted s steps) (sym is) c.in_ok-partners.ensures.0 in
    let end : c.do_steps.new.view ≡ end_of r = c.in_ok-partners.ensures.1 ∙ ap (λ (s : State). after s steps) (sym is) in
    passes r none done (ap (λ (s : State). too_many_rows (now s)) (sym end) ∙ c.in_ok-table.ensures.settles)

pub returns-clause-answer : goal.returns-clause-answer
returns-clause-answer g c =
    let r : DeltaRequest = delta_view c.args.request in
    let steps = steps_of c.args.request.steps.items in
    let is : asked_view r ≡ c.in_ok-view.view = view_unlaid c.args.request ∙ sym c.in_ok-view.ensures.given in
    let end : c.do_steps.new.view ≡ end_of r = c.in_ok-partners.ensures.1 ∙ ap (λ (s : State). after s steps) (sym is) in (
      subst (λ (s : State). IsAnswer (now s) (table_of c.in_ok-table.table)) end c.in_ok-table.ensures.answer,
      c.in_ok-partners.ensures.2 ∙ ap (λ (s : State). told_each s steps) (sym is),
    )
