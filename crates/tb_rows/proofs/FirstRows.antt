-- The first rows of each kind and the groups of rows, one row more at a time.
use Rattle.std.proofs.Common.{◌≡◌, ◌∙◌, ◌<◌, ◌≤◌, ◌+◌, ℕ, zero, suc, Bool, true, false, cond, not, ◌||◌, eqb, List, [], ◌∷◌, ◌++◌, filter, get_or, length, map, refl, sym, ap, subst, arith, inl, inr, ⊎_elim}
use Rattle.std.specs.Prelude.{◌⊎◌}
use Rattle.std.specs.Cmp.{IsEquivalence}
use Rattle.std.specs.List.{All, AllPairs, list_any, position_or_len}
use Rattle.std.proofs.lemmas.Bool.{both_ways, cases_lt, cond-true, cond-false, eq-eqb, ne_eqb, false_from_ne_true, not-true, not-false, or_left, or_right, or_parts}
use Rattle.std.proofs.lemmas.List.{map-append, append-nil}
use Rattle.std.proofs.lemmas.List.Elements.{All-filter, All-head, All-tail, filter-append}
use Rattle.std.proofs.lemmas.List.Folds.{Any-from_list_any, list_any-append, list_any_at, list_any_none, position_or_len_push}
use Rattle.std.proofs.lemmas.List.FromFn.{get_or-map-range_with_len, get_or-range_with_len, length-map-range_with_len, length-range_with_len}
use Rattle.std.proofs.lemmas.List.Quantifiers.{all_pairs_push}
use Rattle.std.proofs.lemmas.List.Sums.{fails_before_first, passes_at_first, position_or_len_is}
use Rattle.tb_value.proofs.RowNumbers.{row_numbers_more, rows_below}
use Rattle.tb_value.specs.Promise.Pairs.{row_numbers}
use Rattle.tb_rows.specs.Promise.Rows.{first_rows, group_of, is_first}

one_more : (n : ℕ) → n + 1 ≡ suc n
one_more n = omega arith

map_agree : {X : Type 0} (f g : ℕ → X) (xs : List ℕ) → All (λ x. f x ≡ g x) xs → map f xs ≡ map g xs
map_agree f g [] all = refl
map_agree f g (x ∷ xs) all =
    let P : ℕ → Type 0 = λ y. f y ≡ g y in
    let head : f x ≡ g x = All-head P x xs all in
    let tail : map f xs ≡ map g xs = map_agree f g xs (All-tail P x xs all) in
    λ t. head t ∷ tail t

none_kept : (p q : ℕ → Bool) (xs : List ℕ) → list_any p xs ≡ false → list_any p (filter q xs) ≡ false
none_kept p q [] h = refl
none_kept p q (x ∷ xs) h =
    let parts = or_parts (p x) (list_any p xs) h in
    by (q x) parts.0 (none_kept p q xs parts.1)
  where
    by : (b : Bool) → p x ≡ false → list_any p (filter q xs) ≡ false → list_any p (cond b (x ∷ filter q xs) (filter q xs)) ≡ false
    by true e k = ap (λ c. c || list_any p (filter q xs)) e ∙ k
    by false e k = k

-- the place of the first that passes is within the list where one passes, and its end where none does
within : (p : ℕ → Bool) (xs : List ℕ) → list_any p xs ≡ true → position_or_len p xs < length xs
within p xs h = ⊎_elim (λ low. low) (λ high. absurd (both_ways (list_any p xs) (list_any_none p xs (λ k d low. fails_before_first p xs k d (omega (arith, high, low)))) h)) (cases_lt (position_or_len p xs) (length xs))

none_at : (p : ℕ → Bool) (xs : List ℕ) → list_any p xs ≡ false → (k : ℕ) → k < length xs → p (get_or xs k 0) ≡ false
none_at p xs h k low = false_from_ne_true (p (get_or xs k 0)) (λ e. both_ways (list_any p xs) h (list_any_at p xs k 0 low e))

pub at_end : (p : ℕ → Bool) (xs : List ℕ) → list_any p xs ≡ false → position_or_len p xs ≡ length xs
at_end p xs h = position_or_len_is p xs (length xs) 0 (omega arith) (none_at p xs h) (λ low. absurd (omega (arith, low)))

module _ (test : ℕ → ℕ → Bool) (same : IsEquivalence test) where
  pub firsts_more : (n : ℕ) (b : Bool) → is_first test n ≡ b → first_rows test (n + 1) ≡ first_rows test n ++ cond b (n ∷ []) []
  firsts_more n b e =
      ap (filter (is_first test)) (row_numbers_more n) ∙ filter-append (is_first test) (row_numbers n) (n ∷ [])
      ∙ ap (λ c. first_rows test n ++ cond c (n ∷ []) []) e

  -- rows that are the same are the same as the same rows
  pub alike : (k n : ℕ) → test k n ≡ true → (xs : List ℕ) → list_any (λ i. test i k) xs ≡ list_any (λ i. test i n) xs
  alike k n e xs =
      let each : (i : ℕ) → test i k ≡ test i n = λ i. same.symm i k ∙ same.congr k n i e ∙ same.symm n i in
      λ t. list_any (λ i. each i t) xs

  any_before : (n : ℕ) → ((j : ℕ) → j < n → list_any (λ i. test i j) (first_rows test n) ≡ true) → list_any (λ j. test j n) (row_numbers n) ≡ true → list_any (λ i. test i n) (first_rows test n) ≡ true
  any_before n covered h =
      let a = Any-from_list_any (λ j. test j n) (row_numbers n) h in
      let low : a.0 < n = omega (arith, a.2, length-range_with_len 0 n) in
      let is : a.1 ≡ a.0 = sym a.3 ∙ get_or-range_with_len 0 n a.0 a.1 low ∙ omega arith in
      sym (alike a.1 n a.4 (first_rows test n)) ∙ ap (λ k. list_any (λ i. test i k) (first_rows test n)) is ∙ covered a.0 low

  -- each row is the same as a first one
  pub covered : (n j : ℕ) → j < n → list_any (λ i. test i j) (first_rows test n) ≡ true
  covered zero j h = absurd (omega (arith, h))
  covered (suc n) j h = subst (λ (m : ℕ). list_any (λ i. test i j) (first_rows test m) ≡ true) (one_more n) (by (covered n) (is_first test n) refl (cases_lt j n))
    where
      any_in : (b : Bool) → is_first test n ≡ b → list_any (λ i. test i j) (first_rows test (n + 1)) ≡ (list_any (λ i. test i j) (first_rows test n) || list_any (λ i. test i j) (cond b (n ∷ []) []))
      any_in b e = ap (list_any (λ i. test i j)) (firsts_more n b e) ∙ list_any-append (λ i. test i j) (first_rows test n) (cond b (n ∷ []) [])

      by : ((j : ℕ) → j < n → list_any (λ i. test i j) (first_rows test n) ≡ true) → (b : Bool) → is_first test n ≡ b → (j < n) ⊎ (n ≤ j) → list_any (λ i. test i j) (first_rows test (n + 1)) ≡ true
      by below b e (inl low) =
          let p : ℕ → Bool = λ i. test i j in
          any_in b e ∙ or_left (list_any p (first_rows test n)) (list_any p (cond b (n ∷ []) [])) (below j low)
      by below true e (inr high) =
          let p : ℕ → Bool = λ i. test i j in
          let is : n ≡ j = omega (arith, h, high) in
          any_in true e ∙ or_right (list_any p (first_rows test n)) (list_any p (n ∷ [])) (or_left (test n j) false (ap (λ k. test n k) (sym is) ∙ same.refl n))
      by below false e (inr high) =
          let p : ℕ → Bool = λ i. test i j in
          let is : n ≡ j = omega (arith, h, high) in
          let there : list_any p (first_rows test n) ≡ true = ap (λ k. list_any (λ i. test i k) (first_rows test n)) (sym is) ∙ any_before n below (not-false (list_any (λ j. test j n) (row_numbers n)) e) in
          any_in false e ∙ or_left (list_any p (first_rows test n)) (list_any p []) there

  -- a row is a first one where it is the same as none of those before
  pub first_any : (n : ℕ) → is_first test n ≡ not (list_any (λ i. test i n) (first_rows test n))
  first_any n = ap not (by (list_any (λ j. test j n) (row_numbers n)) refl)
    where
      by : (b : Bool) → list_any (λ j. test j n) (row_numbers n) ≡ b → b ≡ list_any (λ i. test i n) (first_rows test n)
      by true e = sym (any_before n (covered n) e)
      by false e = sym (none_kept (λ i. test i n) (is_first test) (row_numbers n) e)

  -- THE GROUPS

  -- a row keeps its group
  group_kept : (n j : ℕ) → j < n → group_of test (n + 1) j ≡ group_of test n j
  group_kept n j h = by (is_first test n) refl
    where
      by : (b : Bool) → is_first test n ≡ b → group_of test (n + 1) j ≡ group_of test n j
      by true e =
          let p : ℕ → Bool = λ i. test i j in
          let xs : List ℕ = first_rows test n in
          ap (position_or_len p) (firsts_more n true e) ∙ position_or_len_push p xs n
          ∙ cond-false (eqb (position_or_len p xs) (length xs)) _ (position_or_len p xs) (ne_eqb (position_or_len p xs) (length xs) (λ k. omega (arith, k, within p xs (covered n j h))))
      by false e = ap (position_or_len (λ i. test i j)) (firsts_more n false e ∙ append-nil (first_rows test n))

  -- a further row is in the group of the first one that is the same, and else in one of its own
  group_next : (n : ℕ) → group_of test (n + 1) n ≡ group_of test n n
  group_next n = by (is_first test n) refl
    where
      by : (b : Bool) → is_first test n ≡ b → group_of test (n + 1) n ≡ group_of test n n
      by true e =
          let p : ℕ → Bool = λ i. test i n in
          let xs : List ℕ = first_rows test n in
          let none : list_any p xs ≡ false = not-true (list_any p xs) (sym (first_any n) ∙ e) in
          let last : position_or_len p xs ≡ length xs = at_end p xs none in
          ap (position_or_len p) (firsts_more n true e) ∙ position_or_len_push p xs n
          ∙ cond-true (eqb (position_or_len p xs) (length xs)) (length xs + cond (p n) 0 1) (position_or_len p xs) (eq-eqb (position_or_len p xs) (length xs) last)
          ∙ ap (λ b. length xs + cond b 0 1) (same.refl n) ∙ omega (arith, last)
      by false e = ap (position_or_len (λ i. test i n)) (firsts_more n false e ∙ append-nil (first_rows test n))

  pub groups_more : (n : ℕ) → map (group_of test (n + 1)) (row_numbers (n + 1)) ≡ map (group_of test n) (row_numbers n) ++ group_of test n n ∷ []
  groups_more n =
      let kept : map (group_of test (n + 1)) (row_numbers n) ≡ map (group_of test n) (row_numbers n) = map_agree (group_of test (n + 1)) (group_of test n) (row_numbers n) (λ k d h. group_kept n (get_or (row_numbers n) k d) (rows_below n k d h)) in
      ap (map (group_of test (n + 1))) (row_numbers_more n) ∙ map-append (group_of test (n + 1)) (row_numbers n) (n ∷ [])
      ∙ (λ t. kept t ++ group_next n t ∷ [])

  -- no two first rows are the same
  apart : (n : ℕ) → AllPairs (λ a b. test a b ≡ false) (first_rows test n)
  apart zero = λ i j d low high. absurd (omega (arith, high))
  apart (suc n) = subst (λ (m : ℕ). AllPairs (λ a b. test a b ≡ false) (first_rows test m)) (one_more n) (by (apart n) (is_first test n) refl)
    where
      by : AllPairs (λ a b. test a b ≡ false) (first_rows test n) → (b : Bool) → is_first test n ≡ b → AllPairs (λ a b. test a b ≡ false) (first_rows test (n + 1))
      by before true e =
          let xs : List ℕ = first_rows test n in
          let none : list_any (λ i. test i n) xs ≡ false = not-true (list_any (λ i. test i n) xs) (sym (first_any n) ∙ e) in
          subst (λ (l : List ℕ). AllPairs (λ a b. test a b ≡ false) l) (sym (firsts_more n true e)) (all_pairs_push (λ a b. test a b ≡ false) xs n before (λ k d low. false_from_ne_true (test (get_or xs k d) n) (λ t. both_ways (list_any (λ i. test i n) xs) none (list_any_at (λ i. test i n) xs k d low t))))
      by before false e = subst (λ (l : List ℕ). AllPairs (λ a b. test a b ≡ false) l) (sym (firsts_more n false e ∙ append-nil (first_rows test n))) before

  -- a row is in the group of a first row that is the same, and in no other
  pub group_is : (n p j : ℕ) → p < length (first_rows test n) → eqb (group_of test n j) p ≡ test (get_or (first_rows test n) p 0) j
  group_is n p j h = by (test (get_or (first_rows test n) p 0) j) refl
    where
      q : ℕ → Bool
      q i = test i j

      not_before : test (get_or (first_rows test n) p 0) j ≡ true → (k : ℕ) → k < p → test (get_or (first_rows test n) k 0) j ≡ false
      not_before e k low =
          let a : ℕ = get_or (first_rows test n) k 0 in
          let b : ℕ = get_or (first_rows test n) p 0 in
          false_from_ne_true (test a j) (λ t. both_ways (test a b) (apart n k p 0 low h) (same.symm a b ∙ same.congr b j a e ∙ same.symm j a ∙ t))

      by : (b : Bool) → test (get_or (first_rows test n) p 0) j ≡ b → eqb (group_of test n j) p ≡ b
      by true e = eq-eqb (group_of test n j) p (position_or_len_is (λ i. test i j) (first_rows test n) p 0 (omega (arith, h)) (not_before e) (λ low. e))
      by false e =
          ne_eqb (group_of test n j) p (λ is.
          let here : group_of test n j < length (first_rows test n) = omega (arith, is, h) in
          both_ways (test (get_or (first_rows test n) p 0) j) e (ap (λ k. test (get_or (first_rows test n) k 0) j) (sym is) ∙ passes_at_first (λ i. test i j) (first_rows test n) 0 here))

kept_few : (p : ℕ → Bool) (xs : List ℕ) → length (filter p xs) ≤ length xs
kept_few p [] = omega arith
kept_few p (x ∷ xs) = by (p x) (kept_few p xs)
  where
    by : (b : Bool) → length (filter p xs) ≤ length xs → length (cond b (x ∷ filter p xs) (filter p xs)) ≤ length (x ∷ xs)
    by true h = omega (arith, h)
    by false h = omega (arith, h)

pub few_firsts : (test : ℕ → ℕ → Bool) (n : ℕ) → length (first_rows test n) ≤ n
few_firsts test n = omega (arith, kept_few (is_first test) (row_numbers n), length-range_with_len 0 n)

-- each row has the number of a group
pub numbers_below : (test : ℕ → ℕ → Bool) → IsEquivalence test → (n : ℕ) → All (λ k. k < length (first_rows test n)) (map (group_of test n) (row_numbers n))
numbers_below test same n = λ k d h.
    let low : k < n = omega (arith, h, length-map-range_with_len (group_of test n) 0 n) in
    let at : get_or (map (group_of test n) (row_numbers n)) k d ≡ group_of test n k = get_or-map-range_with_len (group_of test n) 0 n k k d low (omega arith) in
    omega (arith, at, within (λ i. test i k) (first_rows test n) (covered test same n k low))

pub firsts_below : (test : ℕ → ℕ → Bool) (n : ℕ) → All (λ i. i < n) (first_rows test n)
firsts_below test n = All-filter (is_first test) (λ i. i < n) (row_numbers n) (rows_below n)
