-- What a join that is kept ends in.
use Rattle.std.proofs.Common.{◌≡◌, ◌∙◌, Bool, true, List, ℕ, Some, Result, Ok, Err, IfOk, refl, ap, sym, subst}
use mathlib.Core.Logic.{◌⊎◌, inl, inr}
use Rattle.tb_delta.specs.Promise.Now.{now}
use Rattle.tb_delta.specs.Promise.State.{State}
use Rattle.tb_delta.specs.Promise.Steps.{Step}
use Rattle.tb_delta_front.specs.declared.deltas.KeptRows.{KeptRows}
use Rattle.tb_front.specs.declared.fault.FrontFault.{FrontFault}
use Rattle.tb_front.specs.declared.fault.FrontFault.TheVariants.{OutOfMemory}
use Rattle.tb_front.specs.declared.options.TextOptions.{TextOptions}
use Rattle.tb_delta_front.specs.Deltas.{changes_of}
use Rattle.tb_delta_front.specs.Keeping.{IsBehind}
use Rattle.tb_front.specs.Promise.Asked.{IsAnswerText}
use Rattle.tb_delta_front.specs.Promise.Deltas.{IsEndText, changed_text, changes_text, end_fault, end_faults}
use Rattle.tb_front.specs.Promise.Due.{Gives}
use Rattle.tb_front.specs.Promise.Faults.{Settles}

-- the same is given of what is the same
pub gives_as : {T X : Type 0} (seen : T → X) (r : Result T FrontFault) (due other : Result X FrontFault) → due ≡ other → Gives seen r other → Gives seen r due
gives_as seen r due other same is = subst (λ (d : Result _ FrontFault). Gives seen r d) (sym same) is

-- all steps are done, and what they changed is told
pub changes_told : (o : TextOptions) (due : Result (State × List Step) FrontFault) (k : KeptRows) → (a : State × List Step) × (due ≡ Ok a) × IsBehind true a k → changed_text o due ≡ changes_text o (changes_of k.changes.items)
changes_told o due k (a, is, behind) = ap (changed_text o) is ∙ ap (changes_text o) (sym (behind.told refl))

-- the end is that of the view
module _ (o : TextOptions) (keeps : Bool) (due : Result (State × List Step) FrontFault) (k : KeptRows) (there : (a : State × List Step) × (due ≡ Ok a) × IsBehind keeps a k) where
  pub end_is : end_fault o.form due ≡ end_faults o.form (now k.view)
  end_is = ap (end_fault o.form) there.1 ∙ ap (λ (s : State). end_faults o.form (now s)) (sym there.2.state)

  pub end_settles : {T : Type 0} (r : Result T FrontFault) → Settles r (end_faults o.form (now k.view)) → Settles r (end_fault o.form due)
  end_settles r settles = subst (λ f. Settles r f) (sym end_is) settles

  pub end_answers : (r : Result (List ℕ) FrontFault) → IfOk r (IsAnswerText o (now k.view)) → IfOk r (IsEndText o due)
  end_answers r answer =
      subst (λ (d : Result (State × List Step) FrontFault). IfOk r (IsEndText o d)) (sym there.1)
      (subst (λ (s : State). IfOk r (IsAnswerText o (now s))) there.2.state answer)

pub end_stops : (o : TextOptions) (due : Result (State × List Step) FrontFault) (e : FrontFault) → (e ≡ OutOfMemory) ⊎ (due ≡ Err e) → (e ≡ OutOfMemory) ⊎ (end_fault o.form due ≡ Some e)
end_stops o due e (inl want) = inl want
end_stops o due e (inr is) = inr (ap (end_fault o.form) is)
