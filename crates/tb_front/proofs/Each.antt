-- What is due of each of a list, a step at a time.
use Rattle.std.proofs.Common.{◌≡◌, ◌∙◌, ℕ, ◌+◌, List, [], ◌∷◌, ◌++◌, length, Result, Ok, Err, refl, ap, sym, arith, append-nil, append_assoc}
use mathlib.Core.Logic.{inl, inr}
use Rattle.tb_front.specs.declared.fault.FrontFault.{FrontFault}
use Rattle.tb_front.specs.Promise.Due.{◌>>=◌, each_from}
use Rattle.tb_front.proofs.Dues.{IsDue}

-- what is made already stands before the others
abbrev pub behind : {B : Type 0} → List B → Result (List B) FrontFault → Result (List B) FrontFault
behind made r = r >>= λ ys. Ok (made ++ ys)

nothing : {B : Type 0} (r : Result (List B) FrontFault) → r ≡ behind [] r
nothing (Ok ys) = refl
nothing (Err e) = refl

one_more : {B : Type 0} (made : List B) (y : B) (r : Result (List B) FrontFault) → behind made (r >>= λ ys. Ok (y ∷ ys)) ≡ behind (made ++ y ∷ []) r
one_more made y (Ok ys) = ap Ok (sym (append_assoc made (y ∷ []) ys))
one_more made y (Err e) = refl

module _ {A B : Type 0} (f : ℕ → A → Result B FrontFault) where
  pub begins : (n : ℕ) (xs : List A) → each_from f n xs ≡ behind [] (each_from f n xs)
  begins n xs = nothing (each_from f n xs)

  pub goes : (made : List B) (n : ℕ) (x : A) (xs : List A) (y : B) → f n x ≡ Ok y → behind made (each_from f n (x ∷ xs)) ≡ behind (made ++ y ∷ []) (each_from f (n + 1) xs)
  goes made n x xs y is = ap (λ (r : Result B FrontFault). behind made (r >>= λ z. each_from f (n + 1) xs >>= λ ys. Ok (z ∷ ys))) is ∙ one_more made y (each_from f (n + 1) xs)

  pub stops : (made : List B) (n : ℕ) (x : A) (xs : List A) (e : FrontFault) → f n x ≡ Err e → behind made (each_from f n (x ∷ xs)) ≡ Err e
  stops made n x xs e is = ap (λ (r : Result B FrontFault). behind made (r >>= λ z. each_from f (n + 1) xs >>= λ ys. Ok (z ∷ ys))) is

  pub stopped : (made : List B) (n : ℕ) (x : A) (xs : List A) (e : FrontFault) → IsDue e (f n x) → IsDue e (behind made (each_from f n (x ∷ xs)))
  stopped made n x xs e (inl want) = inl want
  stopped made n x xs e (inr is) = inr (stops made n x xs e is)

  pub ends : (made : List B) (n : ℕ) → behind made (each_from f n []) ≡ Ok made
  ends made n = ap Ok (append-nil made)

pub none_left : {X : Type 0} (xs : List X) → length xs ≡ 0 → xs ≡ []
none_left [] none = refl
none_left (x ∷ xs) none = absurd (omega (arith, none))
