-- A list in parts: the elements of each part, one part after another, are the list up to order.
use Rattle.std.proofs.Common.{◌≡◌, ℕ, zero, suc, ◌+◌, ◌<◌, ◌≤◌, Bool, true, false, cond, eqb, List, [], ◌∷◌, ◌++◌, refl, ap, sym, ◌∙◌, subst, arith, ⊎_elim}
use Rattle.std.specs.Prelude.{All, filter, IsPermutation}
use Rattle.std.specs.List.{flat_map, range_with_len}
use Rattle.std.proofs.lemmas.Bool.{ne_eqb, eq-eqb, cases_eq}
use Rattle.std.proofs.lemmas.List.Elements.{All-head, All-tail}
use Rattle.std.proofs.lemmas.List.Sorted.{IsPermutation-cons, IsPermutation-refl, IsPermutation-trans}
use Rattle.tb_value.specs.Promise.Pairs.{row_numbers}
use Rattle.tb_value.proofs.Loops.{flat_map_agree, flat_map_none, permuted, zipped}

module _ {X : Type 0} (part : X → ℕ) where
  abbrev pub spread : ℕ → List X → List X
  spread n xs = flat_map (λ p. filter (λ x. eqb p (part x)) xs) (row_numbers n)

  only : X → ℕ → List X
  only x p = cond (eqb p (part x)) (x ∷ []) []

  none_behind : (x : X) (n a : ℕ) → part x < a → flat_map (only x) (range_with_len a n) ≡ []
  unfolding only
  none_behind x zero a h = refl
  none_behind x (suc n) a h =
      ap (λ (b : Bool). cond b (x ∷ []) [] ++ flat_map (only x) (range_with_len (a + 1) n)) (ne_eqb a (part x) (λ e. omega (arith, e, h)))
      ∙ none_behind x n (a + 1) (omega (arith, h))

  -- an element is of one part
  once : (x : X) (n a : ℕ) → a ≤ part x → part x < a + n → flat_map (only x) (range_with_len a n) ≡ x ∷ []
  unfolding only
  once x zero a low high = absurd (omega (arith, low, high))
  once x (suc n) a low high =
      ⊎_elim
      (λ (e : a ≡ part x).
      ap (λ (b : Bool). cond b (x ∷ []) [] ++ flat_map (only x) (range_with_len (a + 1) n)) (eq-eqb a (part x) e)
      ∙ ap (λ (l : List X). x ∷ l) (none_behind x n (a + 1) (omega (arith, e))))
      (λ (ne : a ≡ part x → ⊥).
      ap (λ (b : Bool). cond b (x ∷ []) [] ++ flat_map (only x) (range_with_len (a + 1) n)) (ne_eqb a (part x) ne)
      ∙ once x n (a + 1) (omega (arith, ne, low)) (omega (arith, high)))
      (cases_eq a (part x))

  put : (b : Bool) (x : X) (ys : List X) → cond b (x ∷ []) [] ++ ys ≡ cond b (x ∷ ys) ys
  put true x ys = refl
  put false x ys = refl

  pub spread_is : (n : ℕ) (xs : List X) → All (λ x. part x < n) xs → IsPermutation xs (spread n xs)
  unfolding only
  spread_is n [] h = permuted [] [] (spread n []) (sym (flat_map_none (row_numbers n))) (IsPermutation-refl [])
  spread_is n (x ∷ xs) h =
      let here : ℕ → List X = λ p. filter (λ y. eqb p (part y)) xs in
      let joined : IsPermutation (flat_map (only x) (row_numbers n) ++ spread n xs) (spread n (x ∷ xs))
      = permuted (flat_map (only x) (row_numbers n) ++ spread n xs) (flat_map (λ p. only x p ++ here p) (row_numbers n)) (spread n (x ∷ xs))
      (flat_map_agree (λ p. only x p ++ here p) (λ p. filter (λ y. eqb p (part y)) (x ∷ xs)) (λ p. put (eqb p (part x)) x (here p)) (row_numbers n))
      (zipped (only x) here (row_numbers n)) in
      let first : flat_map (only x) (row_numbers n) ≡ x ∷ [] = once x n 0 (omega arith) (let low = All-head (λ y. part y < n) x xs h in omega (arith, low)) in
      IsPermutation-trans (x ∷ xs) (x ∷ spread n xs) (spread n (x ∷ xs))
      (IsPermutation-cons x xs (spread n xs) (spread_is n xs (All-tail (λ y. part y < n) x xs h)))
      (subst (λ (l : List X). IsPermutation (l ++ spread n xs) (spread n (x ∷ xs))) first joined)
