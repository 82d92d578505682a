-- What is due: a value, or the first fault.
use Rattle.std.specs.Prelude.{◌≡◌, ◌⊎◌, ℕ, ◌+◌, List, [], ◌∷◌, Option, Some, None, Result, Ok, Err, MatchResult, ⊤}
use Rattle.tb_front.specs.declared.fault.FrontFault.{FrontFault}
use Rattle.tb_front.specs.declared.fault.FrontFault.TheVariants.{OutOfMemory}

infixl 10 ◌>>=◌
abbrev pub ◌>>=◌ : {A B : Type 0} → Result A FrontFault → (A → Result B FrontFault)
    → Result B FrontFault
(Ok a) >>= f = f a
(Err e) >>= f = Err e

-- goes on only where there is no fault
abbrev pub unless : Option FrontFault → Result ⊤ FrontFault
unless None = Ok tt
unless (Some e) = Err e

-- what f gives for each of a list, the first of which has this number
abbrev pub each_from : {A B : Type 0} → (ℕ → A → Result B FrontFault) → ℕ → List A
    → Result (List B) FrontFault
each_from f n [] = Ok []
each_from f n (x ∷ xs) = f n x >>= λ y. each_from f (n + 1) xs >>= λ ys. Ok (y ∷ ys)

-- a call gives what is due as `seen` sees it, or the fault that is due, or lacks memory
abbrev pub Gives : {T X : Type 0} → (T → X) → Result T FrontFault → Result X FrontFault → Type 0
Gives seen r due = MatchResult r (λ t. due ≡ Ok (seen t)) (λ e. (e ≡ OutOfMemory) ⊎ (due ≡ Err e))
