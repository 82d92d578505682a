-- What is due, a step at a time.
use Rattle.std.proofs.Common.{◌≡◌, ◌∙◌, Option, Some, None, Result, Ok, Err, refl, ap, sym}
use mathlib.Core.Logic.{◌⊎◌, inl, inr}
use Rattle.tb_front.specs.declared.fault.FrontFault.{FrontFault}
use Rattle.tb_front.specs.declared.fault.FrontFault.TheVariants.{OutOfMemory}
use Rattle.tb_front.specs.Promise.Due.{◌>>=◌, unless}

-- want of memory, or the fault that is due
abbrev pub IsDue : {A : Type 0} → FrontFault → Result A FrontFault → Type 0
IsDue e r = (e ≡ OutOfMemory) ⊎ (r ≡ Err e)

pub due_as : {A : Type 0} (r s : Result A FrontFault) (e : FrontFault) → r ≡ s → IsDue e s → IsDue e r
due_as r s e same (inl want) = inl want
due_as r s e same (inr is) = inr (same ∙ is)

pub goes_on : {A B : Type 0} (r : Result A FrontFault) (f : A → Result B FrontFault) (a : A) → r ≡ Ok a → (r >>= f) ≡ f a
goes_on r f a is = ap (λ s. s >>= f) is

pub ends_here : {A B : Type 0} (r : Result A FrontFault) (f : A → Result B FrontFault) (e : FrontFault) → IsDue e r → IsDue e (r >>= f)
ends_here r f e (inl want) = inl want
ends_here r f e (inr is) = inr (ap (λ s. s >>= f) is)

pub passes_by : {B : Type 0} (cause : Option FrontFault) (r : Result B FrontFault) → cause ≡ None → (unless cause >>= λ _. r) ≡ r
passes_by cause r none = ap (λ c. unless c >>= λ _. r) none

pub stopped_by : {B : Type 0} (cause : Option FrontFault) (r : Result B FrontFault) (e : FrontFault) → (e ≡ OutOfMemory) ⊎ (cause ≡ Some e) → IsDue e (unless cause >>= λ _. r)
stopped_by cause r e (inl want) = inl want
stopped_by cause r e (inr is) = inr (ap (λ c. unless c >>= λ _. r) is)

pub cause_as : (f g : Option FrontFault) (e : FrontFault) → f ≡ g → (e ≡ OutOfMemory) ⊎ (g ≡ Some e) → (e ≡ OutOfMemory) ⊎ (f ≡ Some e)
cause_as f g e same (inl want) = inl want
cause_as f g e same (inr is) = inr (same ∙ is)
