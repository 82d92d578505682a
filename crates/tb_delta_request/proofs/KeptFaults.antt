-- What a fault says of a request.
use Rattle.std.proofs.Common.{◌≡◌, ◌∙◌, ◌⊎◌, inl, inr, Option, Some, None, option_map, [], ◌∷◌, refl, ap, sym}
use Rattle.tb_value.specs.Promise.Refusals.{first_cause}
use Rattle.tb_value.specs.declared.error.PolarsError.{PolarsError}
use Rattle.tb_value.specs.declared.error.PolarsError.TheVariants.{ColumnNotFound, ComputeError, Duplicate, InvalidOperation, OutOfMemory, SchemaMismatch, ShapeMismatch}
use Rattle.tb_delta.specs.declared.fault.DeltaFault.{DeltaFault}
use Rattle.tb_delta.specs.declared.fault.DeltaFault.TheVariants as fault
use Rattle.tb_delta.specs.declared.running.StepFault.{StepFault}
use Rattle.tb_delta_request.specs.declared.keeping.KeptFault.{KeptFault}
use Rattle.tb_delta_request.specs.declared.keeping.KeptFault.TheVariants as kept
use Rattle.tb_delta_request.specs.Lent.{refusal_view, refused_by, stopped_by, stopped_for}
use Rattle.tb_delta_request.specs.Promise.Answers.{Refusal, at_step, by_operation}

-- want of memory, or the refusal that the fault tells of
abbrev pub IsToldBy : Option Refusal → KeptFault → Type 0
IsToldBy refusal f = (f ≡ kept.OutOfMemory) ⊎ (refusal ≡ refusal_view f)

pub by_error : (refusal : Option Refusal) (e : PolarsError) → (e ≡ OutOfMemory) ⊎ (refusal ≡ Some (by_operation e)) → IsToldBy refusal (refused_by e)
by_error refusal OutOfMemory h = inl refl
by_error refusal (ColumnNotFound n) (inl h) = absurd (cc)
by_error refusal (ColumnNotFound n) (inr h) = inr h
by_error refusal (InvalidOperation c) (inl h) = absurd (cc)
by_error refusal (InvalidOperation c) (inr h) = inr h
by_error refusal (ComputeError c) (inl h) = absurd (cc)
by_error refusal (ComputeError c) (inr h) = inr h
by_error refusal (Duplicate n) (inl h) = absurd (cc)
by_error refusal (Duplicate n) (inr h) = inr h
by_error refusal ShapeMismatch (inl h) = absurd (cc)
by_error refusal ShapeMismatch (inr h) = inr h
by_error refusal SchemaMismatch (inl h) = absurd (cc)
by_error refusal SchemaMismatch (inr h) = inr h

stopped : (refusal : Option Refusal) (f : StepFault) (d : DeltaFault) → (d ≡ fault.OutOfMemory) ⊎ (refusal ≡ Some (at_step (f.step, f.fault))) → IsToldBy refusal (stopped_for f d)
stopped refusal f fault.OutOfMemory h = inl refl
stopped refusal f fault.Schema (inl h) = absurd (cc)
stopped refusal f fault.Schema (inr h) = inr h
stopped refusal f fault.Full (inl h) = absurd (cc)
stopped refusal f fault.Full (inr h) = inr h
stopped refusal f fault.NoRow (inl h) = absurd (cc)
stopped refusal f fault.NoRow (inr h) = inr h

pub by_step : (refusal : Option Refusal) (f : StepFault) → (f.fault ≡ fault.OutOfMemory) ⊎ (refusal ≡ Some (at_step (f.step, f.fault))) → IsToldBy refusal (stopped_by f)
by_step refusal f h = stopped refusal f f.fault h

-- THE FIRST OF THREE CAUSES

pub first_of_three : {A : Type 0} (a b c : Option A) (x : A) → a ≡ Some x → first_cause (a ∷ b ∷ c ∷ []) ≡ Some x
first_of_three a b c x e = ap (λ o. first_cause (o ∷ b ∷ c ∷ [])) e

pub second_of_three : {A : Type 0} (a b c : Option A) (x : A) → a ≡ None → b ≡ Some x → first_cause (a ∷ b ∷ c ∷ []) ≡ Some x
second_of_three a b c x n e = (λ t. first_cause (n t ∷ e t ∷ c ∷ []))

pub third_of_three : {A : Type 0} (a b c : Option A) → a ≡ None → b ≡ None → first_cause (a ∷ b ∷ c ∷ []) ≡ first_cause (c ∷ [])
third_of_three a b c n m = (λ t. first_cause (n t ∷ m t ∷ c ∷ []))
