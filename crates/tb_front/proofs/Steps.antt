-- The first of several faults.
use Rattle.std.proofs.Common.{◌≡◌, List, [], ◌∷◌, Option, Some, None, Result, refl, sym, ap, subst}
use mathlib.Core.Logic.{◌⊎◌, inl, inr}
use Rattle.tb_front.specs.declared.fault.FrontFault.{FrontFault}
use Rattle.tb_front.specs.declared.fault.FrontFault.TheVariants.{OutOfMemory}
use Rattle.tb_value.specs.Promise.Refusals.{first_cause}
use Rattle.tb_front.specs.Promise.Faults.{Settles}

-- a fault that isn't there leaves the others
pub passes : {T : Type 0} (result : Result T FrontFault) (f : Option FrontFault) (fs : List (Option FrontFault))
    → f ≡ None → Settles result (first_cause fs) → Settles result (first_cause (f ∷ fs))
passes result f fs none settles = subst (λ g. Settles result (first_cause (g ∷ fs))) (sym none) settles

-- one that is comes before them
pub refused : (e : FrontFault) (f : Option FrontFault) (fs : List (Option FrontFault)) → (e ≡ OutOfMemory) ⊎ (f ≡ Some e) → (e ≡ OutOfMemory) ⊎ (first_cause (f ∷ fs) ≡ Some e)
refused e f fs (inl want) = inl want
refused e f fs (inr is) = inr (ap (λ g. first_cause (g ∷ fs)) is)

pub first_of_one : (f : Option FrontFault) → first_cause (f ∷ []) ≡ f
first_of_one None = refl
first_of_one (Some e) = refl
