-- Rows in groups, part by part: where the same rows are in one part, a part has whole groups.
use Rattle.std.proofs.Common.{◌≡◌, ◌∙◌, ℕ, Bool, true, false, cond, not, List, [], ◌∷◌, filter, map, refl, sym, ap}
use Rattle.std.proofs.lemmas.Bool.{both_ways}
use Rattle.tb_rows.specs.InGroups.{firsts_in, groups_in}
use Rattle.tb_build.proofs.Lists.{filter-implied}

-- two tests, in either order
pub filter-swap : (p q : ℕ → Bool) (xs : List ℕ) → filter p (filter q xs) ≡ filter q (filter p xs)
filter-swap p q [] = refl
filter-swap p q (x ∷ xs) = by (p x) (q x) refl refl (filter-swap p q xs)
  where
    by : (b c : Bool) → p x ≡ b → q x ≡ c → filter p (filter q xs) ≡ filter q (filter p xs) → filter p (cond (q x) (x ∷ filter q xs) (filter q xs)) ≡ filter q (cond (p x) (x ∷ filter p xs) (filter p xs))
    by true true e f k =
        ap (λ (c : Bool). filter p (cond c (x ∷ filter q xs) (filter q xs))) f
        ∙ ap (λ (c : Bool). cond c (x ∷ filter p (filter q xs)) (filter p (filter q xs))) e
        ∙ ap (λ (l : List ℕ). x ∷ l) k
        ∙ sym (ap (λ (c : Bool). cond c (x ∷ filter q (filter p xs)) (filter q (filter p xs))) f)
        ∙ sym (ap (λ (c : Bool). filter q (cond c (x ∷ filter p xs) (filter p xs))) e)
    by true false e f k =
        ap (λ (c : Bool). filter p (cond c (x ∷ filter q xs) (filter q xs))) f
        ∙ k
        ∙ sym (ap (λ (c : Bool). cond c (x ∷ filter q (filter p xs)) (filter q (filter p xs))) f)
        ∙ sym (ap (λ (c : Bool). filter q (cond c (x ∷ filter p xs) (filter p xs))) e)
    by false true e f k =
        ap (λ (c : Bool). filter p (cond c (x ∷ filter q xs) (filter q xs))) f
        ∙ ap (λ (c : Bool). cond c (x ∷ filter p (filter q xs)) (filter p (filter q xs))) e
        ∙ k
        ∙ sym (ap (λ (c : Bool). filter q (cond c (x ∷ filter p xs) (filter p xs))) e)
    by false false e f k =
        ap (λ (c : Bool). filter p (cond c (x ∷ filter q xs) (filter q xs))) f
        ∙ k
        ∙ sym (ap (λ (c : Bool). filter q (cond c (x ∷ filter p xs) (filter p xs))) e)

module _ (test : ℕ → ℕ → Bool) (q : ℕ → Bool) (one_part : (x y : ℕ) → test x y ≡ true → q x ≡ q y) where
  -- the first rows among those of a part are the first rows that are of the part
  pub part_firsts : (xs : List ℕ) → firsts_in test (filter q xs) ≡ filter q (firsts_in test xs)
  part_firsts [] = refl
  part_firsts (x ∷ xs) = by (q x) refl (part_firsts xs)
    where
      others : ℕ → Bool
      others y = not (test x y)

      -- what is of the part isn't the same as a row that is not
      apart : q x ≡ false → (y : ℕ) → q y ≡ true → others y ≡ true
      apart e y f = tell (test x y) refl
        where
          tell : (b : Bool) → test x y ≡ b → not (test x y) ≡ true
          tell true t = absurd (both_ways (q x) e (one_part x y t ∙ f))
          tell false t = ap not t

      by : (b : Bool) → q x ≡ b → firsts_in test (filter q xs) ≡ filter q (firsts_in test xs) → firsts_in test (cond (q x) (x ∷ filter q xs) (filter q xs)) ≡ filter q (x ∷ filter others (firsts_in test xs))
      by true e k =
          ap (λ (c : Bool). firsts_in test (cond c (x ∷ filter q xs) (filter q xs))) e
          ∙ ap (λ (l : List ℕ). x ∷ filter others l) k
          ∙ ap (λ (l : List ℕ). x ∷ l) (filter-swap others q (firsts_in test xs))
          ∙ sym (ap (λ (c : Bool). cond c (x ∷ filter q (filter others (firsts_in test xs))) (filter q (filter others (firsts_in test xs)))) e)
      by false e k =
          ap (λ (c : Bool). firsts_in test (cond c (x ∷ filter q xs) (filter q xs))) e
          ∙ k
          ∙ sym (filter-implied others q (apart e) (firsts_in test xs))
          ∙ sym (ap (λ (c : Bool). cond c (x ∷ filter q (filter others (firsts_in test xs))) (filter q (filter others (firsts_in test xs)))) e)

  -- the rows of a part that are the same as one of the part are all rows that are
  pub part_group : (x : ℕ) → q x ≡ true → (xs : List ℕ) → filter (test x) (filter q xs) ≡ filter (test x) xs
  part_group x e xs = filter-implied q (test x) (λ y t. sym (one_part x y t) ∙ e) xs

-- the groups of a part are the groups in the whole list of its first rows
module _ (test : ℕ → ℕ → Bool) (q : ℕ → Bool) (one_part : (x y : ℕ) → test x y ≡ true → q x ≡ q y) where
  whole : (xs ys : List ℕ) → map (λ x. filter (test x) (filter q xs)) (filter q ys) ≡ map (λ x. filter (test x) xs) (filter q ys)
  whole xs [] = refl
  whole xs (y ∷ ys) = by (q y) refl (whole xs ys)
    where
      by : (b : Bool) → q y ≡ b → map (λ x. filter (test x) (filter q xs)) (filter q ys) ≡ map (λ x. filter (test x) xs) (filter q ys)
          → map (λ x. filter (test x) (filter q xs)) (cond (q y) (y ∷ filter q ys) (filter q ys)) ≡ map (λ x. filter (test x) xs) (cond (q y) (y ∷ filter q ys) (filter q ys))
      by true e k =
          ap (λ (c : Bool). map (λ x. filter (test x) (filter q xs)) (cond c (y ∷ filter q ys) (filter q ys))) e
          ∙ ap (λ (l : List ℕ). l ∷ map (λ x. filter (test x) (filter q xs)) (filter q ys)) (part_group test q one_part y e xs)
          ∙ ap (λ (l : List (List ℕ)). filter (test y) xs ∷ l) k
          ∙ sym (ap (λ (c : Bool). map (λ x. filter (test x) xs) (cond c (y ∷ filter q ys) (filter q ys))) e)
      by false e k =
          ap (λ (c : Bool). map (λ x. filter (test x) (filter q xs)) (cond c (y ∷ filter q ys) (filter q ys))) e
          ∙ k
          ∙ sym (ap (λ (c : Bool). map (λ x. filter (test x) xs) (cond c (y ∷ filter q ys) (filter q ys))) e)

  pub part_groups : (xs : List ℕ) → groups_in test (filter q xs) ≡ map (λ x. filter (test x) xs) (filter q (firsts_in test xs))
  part_groups xs = ap (map (λ x. filter (test x) (filter q xs))) (part_firsts test q one_part xs) ∙ whole xs (firsts_in test xs)
