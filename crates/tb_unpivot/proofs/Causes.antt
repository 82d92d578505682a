-- Causes that are looked at one after another.
use Rattle.std.proofs.Common.{◌≡◌, List, [], ◌∷◌, Option, Some, None, Result, inl, inr, refl, subst, ◌∙◌}
use Rattle.std.specs.Prelude.{◌⊎◌}
use Rattle.tb_value.specs.Promise.Refusals.{first_cause}
use Rattle.tb_value.specs.Refusals.{Settles}
use Rattle.tb_value.specs.declared.error.PolarsError.{PolarsError}
use Rattle.tb_value.specs.declared.error.PolarsError.TheVariants.{OutOfMemory}

pub settled : {T : Type 0} (r : Result T PolarsError) (c d : Option PolarsError) → c ≡ d → Settles r c → Settles r d
settled r c d e h = subst (λ (x : Option PolarsError). Settles r x) e h

-- a cause that holds is the first
pub stops : (e : PolarsError) (a : Option PolarsError) (rest : List (Option PolarsError)) → (e ≡ OutOfMemory) ⊎ (a ≡ Some e) → (e ≡ OutOfMemory) ⊎ (first_cause (a ∷ rest) ≡ Some e)
stops e a rest (inl h) = inl h
stops e a rest (inr h) = inr (λ t. first_cause (h t ∷ rest))

-- and one that doesn't is passed by
pub goes_on : (a : Option PolarsError) (rest : List (Option PolarsError)) → a ≡ None → first_cause (a ∷ rest) ≡ first_cause rest
goes_on a rest none = λ t. first_cause (none t ∷ rest)

pub onward : (e : PolarsError) (a b : Option PolarsError) → b ≡ a → (e ≡ OutOfMemory) ⊎ (a ≡ Some e) → (e ≡ OutOfMemory) ⊎ (b ≡ Some e)
onward e a b same (inl h) = inl h
onward e a b same (inr h) = inr (same ∙ h)

pub first_of_one : (a : Option PolarsError) → first_cause (a ∷ []) ≡ a
first_of_one None = refl
first_of_one (Some e) = refl
