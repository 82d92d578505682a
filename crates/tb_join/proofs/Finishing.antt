-- What calls answer.
use Rattle.std.proofs.Common.{◌≡◌, inl, inr, subst, Option, Some, None, Result}
use Rattle.std.specs.Prelude.{◌⊎◌}
use Rattle.tb_value.specs.Refusals.{Settles}
use Rattle.tb_value.specs.declared.error.PolarsError.{PolarsError}
use Rattle.tb_value.specs.declared.error.PolarsError.TheVariants.{OutOfMemory}

pub settled : {T : Type 0} (r : Result T PolarsError) (c d : Option PolarsError) → c ≡ d → Settles r c → Settles r d
settled r c d e h = subst (λ (x : Option PolarsError). Settles r x) e h

-- what refuses for want of memory alone refuses so whatever else is a cause
pub wanting : (cause : Option PolarsError) (e : PolarsError) → (e ≡ OutOfMemory) ⊎ (None ≡ Some e) → (e ≡ OutOfMemory) ⊎ (cause ≡ Some e)
wanting cause e (inl h) = inl h
wanting cause e (inr h) = absurd (cc)
