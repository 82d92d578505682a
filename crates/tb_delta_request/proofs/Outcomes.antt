-- What a request comes to, by what its view, its steps and its table come to.
use Rattle.std.proofs.Common.{◌≡◌, ◌∙◌, ◌⊎◌, inl, inr, List, [], ◌∷◌, Option, Some, None, option_map, refl, ap, sym, subst}
use Rattle.tb_value.specs.Promise.Refusals.{first_cause}
use Rattle.tb_value.specs.declared.error.PolarsError.{PolarsError}
use Rattle.tb_value.specs.declared.error.PolarsError.TheVariants.{OutOfMemory}
use Rattle.tb_frame.specs.Promise.Refusal.{too_many_rows}
use Rattle.tb_frame.specs.Promise.Table.{table_of}
use Rattle.tb_delta.specs.Promise.Now.{now, view_refusal}
use Rattle.tb_delta.specs.Promise.State.{State, given}
use Rattle.tb_delta.specs.Promise.Steps.{AreAccepted}
use Rattle.tb_delta.specs.Running.{IsStopped}
use Rattle.tb_delta.specs.declared.fault.DeltaFault.TheVariants as fault
use Rattle.tb_delta.specs.declared.running.StepFault.{StepFault}
use Rattle.tb_request.proofs.Unlaid.{table_unlaid}
use Rattle.tb_delta_request.specs.Lent.{refused_by, stopped_by}
use Rattle.tb_delta_request.specs.Promise.Answers.{Refusal, at_step, by_operation, delta_refusal, end_of, first_refused}
use Rattle.tb_delta_request.specs.Promise.Reading.{AreFitting, DeltaRequest, asked_view, delta_view}
use Rattle.tb_delta_request.specs.declared.request.DeltaRequest as rust
use Rattle.tb_delta_request.proofs.FirstRefused.{none_refused, stopped_first}
use Rattle.tb_delta_request.proofs.KeptFaults.{IsToldBy, by_error, by_step, first_of_three, second_of_three, third_of_three}

-- the view doesn't show where texts stand
pub view_unlaid : (r : rust.DeltaRequest) → asked_view (delta_view r) ≡ given (table_of r.left) (table_of r.right) r.left_on r.right_on r.join_nulls
view_unlaid r = λ t. given (table_unlaid r.left t) (table_unlaid r.right t) r.left_on r.right_on r.join_nulls

module _ (r : DeltaRequest) where
  abbrev viewed : Option Refusal
  viewed = option_map by_operation (view_refusal (asked_view r))

  abbrev stepped : Option Refusal
  stepped = option_map at_step (first_refused 0 (asked_view r) r.steps)

  abbrev ended : Option Refusal
  ended = option_map by_operation (too_many_rows (now (end_of r)))

  pub view_fails : (e : PolarsError) → (e ≡ OutOfMemory) ⊎ (view_refusal (asked_view r) ≡ Some e) → IsToldBy (delta_refusal r) (refused_by e)
  view_fails e (inl h) = by_error (delta_refusal r) e (inl h)
  view_fails e (inr h) = by_error (delta_refusal r) e (inr (first_of_three viewed stepped ended (by_operation e) (ap (option_map by_operation) h)))

  no_view : view_refusal (asked_view r) ≡ None → viewed ≡ None
  no_view h = ap (option_map by_operation) h

  no_step : AreAccepted (asked_view r) r.steps → stepped ≡ None
  no_step h = ap (option_map at_step) (none_refused 0 (asked_view r) r.steps h)

  pub step_fails : (n : State) (f : StepFault) → AreFitting r → view_refusal (asked_view r) ≡ None → IsStopped (asked_view r) r.steps n f → IsToldBy (delta_refusal r) (stopped_by f)
  step_fails n f fits none h = by_step (delta_refusal r) f (found (stopped_first (asked_view r) r.steps n f fits h))
    where
      found : (f.fault ≡ fault.OutOfMemory) ⊎ (first_refused 0 (asked_view r) r.steps ≡ Some (f.step, f.fault)) → (f.fault ≡ fault.OutOfMemory) ⊎ (delta_refusal r ≡ Some (at_step (f.step, f.fault)))
      found (inl e) = inl e
      found (inr e) = inr (second_of_three viewed stepped ended (at_step (f.step, f.fault)) (no_view none) (ap (option_map at_step) e))

  pub table_fails : (e : PolarsError) → view_refusal (asked_view r) ≡ None → AreAccepted (asked_view r) r.steps → (e ≡ OutOfMemory) ⊎ (too_many_rows (now (end_of r)) ≡ Some e) → IsToldBy (delta_refusal r) (refused_by e)
  table_fails e none done (inl h) = by_error (delta_refusal r) e (inl h)
  table_fails e none done (inr h) = by_error (delta_refusal r) e (inr (third_of_three viewed stepped ended (no_view none) (no_step done) ∙ ap (λ o. first_cause (option_map by_operation o ∷ [])) h))

  pub passes : view_refusal (asked_view r) ≡ None → AreAccepted (asked_view r) r.steps → too_many_rows (now (end_of r)) ≡ None → delta_refusal r ≡ None
  passes none done few = third_of_three viewed stepped ended (no_view none) (no_step done) ∙ ap (λ o. first_cause (option_map by_operation o ∷ [])) few
