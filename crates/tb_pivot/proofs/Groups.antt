-- Groups of rows, as aggregates take them.
use Rattle.std.proofs.Common.{◌∙◌, ◌<◌, ◌≤◌, ℕ, Bool, List, get_or, length, map, sym, ap, subst, arith}
use Rattle.std.specs.Cmp.{IsEquivalence}
use Rattle.std.specs.List.{All, position_or_len}
use Rattle.std.proofs.lemmas.Bool.{ltb-true}
use Rattle.std.proofs.lemmas.List.Elements.{All-map}
use Rattle.std.proofs.lemmas.List.FromFn.{get_or-range_with_len, length-map-range_with_len, length-range_with_len}
use Rattle.std.proofs.lemmas.List.Sums.{count_by-le-length, length-filter}
use Rattle.tb_value.specs.Promise.Pairs.{row_numbers}
use Rattle.tb_value.specs.declared.limits.TheConstants.{MAX_ROWS}
use Rattle.tb_rows.specs.Grouped.{AreGroups}
use Rattle.tb_rows.specs.Promise.Rows.{first_rows, group_of, is_first}
use Rattle.tb_rows.specs.declared.groups.Groups.{Groups}
use Rattle.tb_rows.proofs.FirstRows.{covered}
use Rattle.tb_agg.specs.Grouped.{AreGroupsOf}
use Rattle.tb_pivot.proofs.Causes.{before_end}

module _ (test : ℕ → ℕ → Bool) (same : IsEquivalence test) (n : ℕ) where
  -- a row is in one of the groups
  in_group : (j : ℕ) → j < n → group_of test n j < length (first_rows test n)
  in_group j low =
      let p : ℕ → Bool = λ i. test i j in
      ltb-true (position_or_len p (first_rows test n)) (length (first_rows test n)) (before_end p (first_rows test n) ∙ covered test same n j low)

  each_in_group : All (λ k. k < length (first_rows test n)) (map (group_of test n) (row_numbers n))
  each_in_group =
      All-map (λ k. k < length (first_rows test n)) (group_of test n) (row_numbers n) (λ i d low.
      let under : i < n = omega (arith, low, length-range_with_len 0 n) in
      in_group (get_or (row_numbers n) i d) (omega (arith, get_or-range_with_len 0 n i d under, under)))

  few_firsts : length (first_rows test n) ≤ n
  few_firsts = omega (arith, length-filter (is_first test) (row_numbers n), count_by-le-length (is_first test) (row_numbers n), length-range_with_len 0 n)

  -- groups by a test are groups of as many rows
  pub are_groups_of : (g : Groups) → AreGroups test n g → n ≤ MAX_ROWS → AreGroupsOf n g
  are_groups_of g groups few = record {
    each = ap length groups.numbers ∙ length-map-range_with_len (group_of test n) 0 n;
    within = subst (λ (l : List ℕ). All (λ k. k < length l) g.numbers.items) (sym groups.firsts) (subst (λ (l : List ℕ). All (λ k. k < length (first_rows test n)) l) (sym groups.numbers) each_in_group);
    few = omega (arith, ap length groups.firsts, few_firsts, few);
  }
