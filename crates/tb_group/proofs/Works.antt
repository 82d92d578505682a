-- Parts that have work, and what the others don't add.
use Rattle.std.proofs.Common.{◌≡◌, ◌∙◌, ◌||◌, ℕ, Bool, true, false, cond, List, [], ◌∷◌, ◌++◌, filter, length, nat_eq, nat_lt, refl, sym, ap, arith}
use Rattle.std.specs.List.{flat_map}
use Rattle.std.proofs.lemmas.Bool.{lt-ltb}
use Rattle.tb_group.specs.Parts.{has_work}

-- what gives nothing adds nothing
pub all_of_some : {X : Type 0} (p : ℕ → Bool) (f : ℕ → List X) → ((x : ℕ) → p x ≡ false → f x ≡ []) → (xs : List ℕ) → flat_map f (filter p xs) ≡ flat_map f xs
all_of_some p f none [] = refl
all_of_some {X} p f none (x ∷ xs) = by (p x) refl (all_of_some p f none xs)
  where
    by : (b : Bool) → p x ≡ b → flat_map f (filter p xs) ≡ flat_map f xs → flat_map f (cond (p x) (x ∷ filter p xs) (filter p xs)) ≡ f x ++ flat_map f xs
    by true e k = ap (λ (b : Bool). flat_map f (cond b (x ∷ filter p xs) (filter p xs))) e ∙ ap (λ (l : List X). f x ++ l) k
    by false e k =
        ap (λ (b : Bool). flat_map f (cond b (x ∷ filter p xs) (filter p xs))) e ∙ k
        ∙ sym (ap (λ (l : List X). l ++ flat_map f xs) (none x e))

-- a part that has no work has no rows
pub no_rows : (p : ℕ) (rows : List ℕ) → has_work p rows ≡ false → rows ≡ []
no_rows p [] h = refl
no_rows p (r ∷ rows) h = absurd (by (nat_eq p 0) (nat_lt 0 (length (r ∷ rows))) (lt-ltb 0 (length (r ∷ rows)) (omega arith)) h)
  where
    by : (b c : Bool) → c ≡ true → (b || c) ≡ false → ⊥
    by true c t e = cc
    by false c t e = cc
