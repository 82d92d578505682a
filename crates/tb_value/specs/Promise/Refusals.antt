-- Refusals: the first cause that holds, want of memory apart.
use Rattle.std.specs.Prelude.{◌≡◌, ◌⊎◌, Bool, if◌then◌else◌, List, [], ◌∷◌, Option, Some, None, Result, MatchResult}

-- the first that is there
abbrev pub first_cause : {E : Type 0} → List (Option E) → Option E
first_cause [] = None
first_cause (None ∷ cs) = first_cause cs
first_cause (Some e ∷ cs) = Some e

-- the error, where the test holds
abbrev pub when : {E : Type 0} → Bool → E → Option E
when b e = (if b then Some e else None)

-- A call settles a cause: it passes exactly where there is none, and else refuses by it. The error that tells of want of memory may come at any time.
abbrev pub SettlesBut : {T E : Type 0} → E → Result T E → Option E → Type 0
SettlesBut memory r cause = MatchResult r (λ _. cause ≡ None) (λ e. (e ≡ memory) ⊎ (cause ≡ Some e))
