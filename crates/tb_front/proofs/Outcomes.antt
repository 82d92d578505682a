-- What an operation answers, handed on as a text.
use Rattle.std.proofs.Common.{◌≡◌, ◌∙◌, ℕ, List, [], ◌∷◌, Option, Some, Result, Ok, Err, IfOk, refl, sym, ap, subst}
use mathlib.Core.Logic.{◌⊎◌, inl, inr}
use Rattle.tb_value.specs.Refusals as causes
use Rattle.tb_value.specs.declared.error.PolarsError.{PolarsError}
use Rattle.tb_value.specs.declared.error.PolarsError.TheVariants as cause
use Rattle.tb_chunk.specs.Promise.Col.{Col}
use Rattle.tb_frame.specs.Promise.Table.{Table, table_of}
use Rattle.tb_front.specs.declared.options.TextForm.{TextForm}
use Rattle.tb_front.specs.declared.fault.FrontFault.{FrontFault}
use Rattle.tb_front.specs.declared.fault.FrontFault.TheVariants as fault
use Rattle.tb_value.specs.Promise.Refusals.{first_cause}
use Rattle.tb_front.specs.Promise.Faults.{Settles, writing_fault, refusal_fault}
use Rattle.tb_front.specs.Promise.Texts.{IsOutcome, fault_of, text_in}
use Rattle.tb_front.proofs.Steps.{first_of_one}

-- a refusal is handed on as itself, or as want of memory
fault_cases : (e : PolarsError) → (fault_of e ≡ fault.OutOfMemory) ⊎ (fault_of e ≡ fault.Refused e)
fault_cases (cause.ColumnNotFound n) = inr refl
fault_cases (cause.InvalidOperation why) = inr refl
fault_cases (cause.ComputeError why) = inr refl
fault_cases (cause.Duplicate n) = inr refl
fault_cases cause.ShapeMismatch = inr refl
fault_cases cause.SchemaMismatch = inr refl
fault_cases cause.OutOfMemory = inl refl

module _ (form : TextForm) (separator : ℕ) where
  pub refusal_settles : (e : PolarsError) (refusal : Option PolarsError) (fs : List (Option FrontFault))
      → (e ≡ cause.OutOfMemory) ⊎ (refusal ≡ Some e) → (fault_of e ≡ fault.OutOfMemory) ⊎ (first_cause (refusal_fault refusal ∷ fs) ≡ Some (fault_of e))
  refusal_settles e refusal fs (inl want) = inl (ap fault_of want)
  refusal_settles e refusal fs (inr there) = elim (fault_cases e) [
    | inl want ↦ inl want
    | inr same ↦ inr (subst (λ (r : Option PolarsError). first_cause (refusal_fault r ∷ fs) ≡ Some (fault_of e)) (sym there) (ap Some (sym same)))
  ]

  -- the operation's cause is settled, and then the fault of writing its table
  pub outcome_settles : (outcome : Result (List Col) PolarsError) (result : Result (List ℕ) FrontFault) (refusal : Option PolarsError) (last : Option FrontFault)
      → causes.Settles outcome refusal → IfOk outcome (λ t. writing_fault form (table_of t) ≡ last)
      → IsOutcome form separator outcome result → Settles result (first_cause (refusal_fault refusal ∷ last ∷ []))
  outcome_settles (Ok t) result refusal last settles same is =
      subst (λ (r : Option PolarsError). Settles result (first_cause (refusal_fault r ∷ last ∷ []))) (sym settles)
      (subst (λ (f : Option FrontFault). Settles result f) (same ∙ sym (first_of_one last)) is.0)
  outcome_settles (Err e) result refusal last settles same is =
      subst (λ (r : Result (List ℕ) FrontFault). Settles r (first_cause (refusal_fault refusal ∷ last ∷ []))) (sym is) (refusal_settles e refusal (last ∷ []) settles)

  -- what holds of the operation's table holds of the table whose text is given
  pub outcome_answers : (P : Table → Type 0) (outcome : Result (List Col) PolarsError) (result : Result (List ℕ) FrontFault)
      → IfOk outcome (λ t. P (table_of t)) → IsOutcome form separator outcome result
      → IfOk result (λ s. (t : Table) × P t × (s ≡ text_in form separator t))
  outcome_answers P (Ok t) (Ok v) answer is = (table_of t, answer, is.1)
  outcome_answers P (Ok t) (Err e) answer is = tt
  outcome_answers P (Err e) result answer is =
      subst (λ (r : Result (List ℕ) FrontFault). IfOk r (λ s. (t : Table) × P t × (s ≡ text_in form separator t))) (sym is) tt

  written_as : (answer : Table) (outcome : Result (List Col) PolarsError) → IfOk outcome (λ t. table_of t ≡ answer)
      → IfOk outcome (λ t. writing_fault form (table_of t) ≡ writing_fault form answer)
  written_as answer (Ok t) is = ap (writing_fault form) is
  written_as answer (Err e) is = tt

  -- the same where the operation has one answer
  pub table_settles : (outcome : Result (List Col) PolarsError) (result : Result (List ℕ) FrontFault) (refusal : Option PolarsError) (answer : Table)
      → causes.Settles outcome refusal → IfOk outcome (λ t. table_of t ≡ answer)
      → IsOutcome form separator outcome result → Settles result (first_cause (refusal_fault refusal ∷ writing_fault form answer ∷ []))
  table_settles outcome result refusal answer settles table is =
      outcome_settles outcome result refusal (writing_fault form answer) settles (written_as answer outcome table) is

  pub table_text : (outcome : Result (List Col) PolarsError) (result : Result (List ℕ) FrontFault) (answer : Table)
      → IfOk outcome (λ t. table_of t ≡ answer) → IsOutcome form separator outcome result
      → IfOk result (λ s. s ≡ text_in form separator answer)
  table_text (Ok t) (Ok v) answer table is = is.1 ∙ ap (text_in form separator) table
  table_text (Ok t) (Err e) answer table is = tt
  table_text (Err e) result answer table is =
      subst (λ (r : Result (List ℕ) FrontFault). IfOk r (λ s. s ≡ text_in form separator answer)) (sym is) tt
