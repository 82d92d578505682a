-- Listed rows in groups, by the groups of their places.
use Rattle.std.proofs.Common.{◌≡◌, ◌∙◌, ◌<◌, ◌≤◌, ℕ, Bool, cond, eqb, List, [], ◌∷◌, filter, get_or, length, map, refl, sym, ap, subst, arith}
use Rattle.std.specs.Cmp.{IsEquivalence}
use Rattle.std.specs.List.{All}
use Rattle.std.proofs.lemmas.List.{get_or-map, length-map, same_lists}
use Rattle.std.proofs.lemmas.List.Elements.{All-head, All-tail}
use Rattle.std.proofs.lemmas.List.FromFn.{get_or-map-range_with_len, get_or-range_with_len, length-map-range_with_len, length-range_with_len}
use Rattle.tb_value.specs.Promise.Pairs.{row_numbers}
use Rattle.tb_value.specs.declared.limits.TheConstants.{MAX_ROWS}
use Rattle.tb_rows.specs.Grouped.{AreGroups}
use Rattle.tb_rows.specs.Promise.Rows.{first_rows, group_of}
use Rattle.tb_rows.specs.declared.groups.Groups.{Groups}
use Rattle.tb_rows.specs.InGroups.{firsts_in, groups_in, listed_test}
use Rattle.tb_rows.proofs.FirstRows.{few_firsts, group_is, numbers_below}
use Rattle.tb_rows.proofs.Listed.{firsts_listed, groups_listed}
use Rattle.tb_agg.specs.Grouped.{rows_of, AreGroupsOf}
use Rattle.tb_group.specs.Order.{row_in}
use Rattle.tb_group.specs.Parts.{rows_in_groups}

-- what holds of each number below n holds of all n rows
pub each_row : (P : ℕ → Type 0) (n : ℕ) → ((i : ℕ) → i < n → P i) → All P (row_numbers n)
each_row P n holds = λ k d low.
    let under : k < n = omega (arith, low, length-range_with_len 0 n) in
    let is : get_or (row_numbers n) k d ≡ k = omega (arith, get_or-range_with_len 0 n k d under) in
    subst P (sym is) (holds k under)

-- tests that agree at each element keep the same
pub filter_same : (p q : ℕ → Bool) (xs : List ℕ) → All (λ x. p x ≡ q x) xs → filter p xs ≡ filter q xs
filter_same p q [] agree = refl
filter_same p q (x ∷ xs) agree =
    let P : ℕ → Type 0 = λ y. p y ≡ q y in
    ap (λ (b : Bool). cond b (x ∷ filter p xs) (filter p xs)) (All-head P x xs agree)
    ∙ ap (λ (ys : List ℕ). cond (q x) (x ∷ ys) ys) (filter_same p q xs (All-tail P x xs agree))

module _ (test : ℕ → ℕ → Bool) (same : IsEquivalence test) (n : ℕ) (g : Groups) (groups : AreGroups test n g) where
  -- a row is in the group whose first row is the same
  is_member : (i k : ℕ) → k < length g.firsts.items → eqb (group_of test n i) k ≡ test (get_or g.firsts.items k 0) i
  is_member i k low =
      let under : k < length (first_rows test n) = omega (arith, low, ap length groups.firsts) in
      group_is test same n k i under ∙ ap (λ (xs : List ℕ). test (get_or xs k 0) i) (sym groups.firsts)

  number_is : (i k : ℕ) → i < n → k < length g.firsts.items → eqb (get_or g.numbers.items i 0) k ≡ test (get_or g.firsts.items k 0) i
  number_is i k row low =
      ap (λ (xs : List ℕ). eqb (get_or xs i 0) k) groups.numbers
      ∙ ap (λ (j : ℕ). eqb j k) (get_or-map-range_with_len (group_of test n) 0 n i i 0 row (omega arith))
      ∙ is_member i k low

  -- the rows of a group are those that are the same as its first one
  members : (k : ℕ) → k < length g.firsts.items → rows_of g.numbers.items n k ≡ filter (test (get_or g.firsts.items k 0)) (row_numbers n)
  members k low =
      let p : ℕ → Bool = λ i. eqb (get_or g.numbers.items i 0) k in
      let q : ℕ → Bool = test (get_or g.firsts.items k 0) in
      filter_same p q (row_numbers n) (each_row (λ i. p i ≡ q i) n (λ i row. number_is i k row low))

  -- what is made of the rows of each group
  pub by_members : {X : Type 0} (made : List ℕ → X) → map (λ k. made (rows_of g.numbers.items n k)) (row_numbers (length g.firsts.items)) ≡ map (λ x. made (filter (test x) (row_numbers n))) g.firsts.items
  by_members {X} made =
      let many : ℕ = length g.firsts.items in
      let of_group : ℕ → X = λ k. made (rows_of g.numbers.items n k) in
      let of_first : ℕ → X = λ x. made (filter (test x) (row_numbers n)) in
      let long : length (map of_group (row_numbers many)) ≡ many = length-map-range_with_len of_group 0 many in
      same_lists (map of_group (row_numbers many)) (map of_first g.firsts.items) (long ∙ sym (length-map g.firsts.items of_first)) (λ k d below.
      let low : k < many = omega (arith, below, long) in
      get_or-map-range_with_len of_group 0 many k k d low (omega arith)
      ∙ ap made (members k low)
      ∙ sym (get_or-map of_first g.firsts.items k 0 d low))

  -- groups by a test are groups of as many rows
  pub are_groups_of : n ≤ MAX_ROWS → AreGroupsOf n g
  are_groups_of few = record {
    each = ap length groups.numbers ∙ length-map-range_with_len (group_of test n) 0 n;
    within = subst (λ (l : List ℕ). All (λ k. k < length l) g.numbers.items) (sym groups.firsts) (subst (λ (l : List ℕ). All (λ k. k < length (first_rows test n)) l) (sym groups.numbers) (numbers_below test same n));
    few = omega (arith, ap length groups.firsts, few_firsts test n, few);
  }

-- the groups of the places of a list, as the rows at those places
module _ (test : ℕ → ℕ → Bool) (same : IsEquivalence test) (rows : List ℕ) (g : Groups) (groups : AreGroups (listed_test rows test) (length rows) g) where
  also : IsEquivalence (listed_test rows test)
  also = record {
    refl = λ a. same.refl (row_in rows a);
    symm = λ a b. same.symm (row_in rows a) (row_in rows b);
    congr = λ a b c. same.congr (row_in rows a) (row_in rows b) (row_in rows c);
  }

  pub firsts_are : map (row_in rows) g.firsts.items ≡ firsts_in test rows
  firsts_are = ap (map (row_in rows)) groups.firsts ∙ firsts_listed test same rows

  pub groups_are : rows_in_groups rows g ≡ groups_in test rows
  groups_are =
      by_members (listed_test rows test) also (length rows) g groups (map (row_in rows))
      ∙ ap (map (λ x. map (row_in rows) (filter (listed_test rows test x) (row_numbers (length rows))))) groups.firsts
      ∙ groups_listed test same rows

  pub places_grouped : length rows ≤ MAX_ROWS → AreGroupsOf (length rows) g
  places_grouped few = are_groups_of (listed_test rows test) also (length rows) g groups few
