-- The pairs of a join, over row numbers alone: l left rows, r right rows, and a test m of which rows match.
use Rattle.std.specs.Prelude.{ℕ, Bool, not, List, map, filter, Option, Some, None}
use Rattle.std.specs.List.{flat_map, list_any, range_with_len}
use Rattle.std.specs.declared.cmp.Ordering.{Ordering}
use Rattle.std.specs.declared.cmp.Ordering.TheVariants.{Less, Equal, Greater}
use Rattle.std.specs.Ordering.{nat_cmp, on, then_cmp}
use Rattle.tb_value.specs.declared.index.JoinPair.{JoinPair}

-- the row numbers of n rows
abbrev pub row_numbers : ℕ → List ℕ
row_numbers n = range_with_len 0 n

-- (i, j), (i, -) and (-, j)
abbrev pub both : ℕ → ℕ → JoinPair
both i j = record { left = Some i; right = Some j }

abbrev pub left_only : ℕ → JoinPair
left_only i = record { left = Some i; right = None }

abbrev pub right_only : ℕ → JoinPair
right_only j = record { left = None; right = Some j }

-- two loops over row numbers, i outside and j inside
abbrev pub matched_pairs : ℕ → ℕ → (ℕ → ℕ → Bool) → List JoinPair
matched_pairs l r m = flat_map (λ i. map (both i) (filter (m i) (row_numbers r))) (row_numbers l)

-- the left rows with a match, those without one, and the right rows without one
abbrev pub left_met : ℕ → ℕ → (ℕ → ℕ → Bool) → List JoinPair
left_met l r m = map left_only (filter (λ i. list_any (m i) (row_numbers r)) (row_numbers l))

abbrev pub left_unmet : ℕ → ℕ → (ℕ → ℕ → Bool) → List JoinPair
left_unmet l r m =
    map left_only (filter (λ i. not (list_any (m i) (row_numbers r))) (row_numbers l))

abbrev pub right_unmet : ℕ → ℕ → (ℕ → ℕ → Bool) → List JoinPair
right_unmet l r m =
    map right_only (filter (λ j. not (list_any (λ i. m i j) (row_numbers l))) (row_numbers r))

-- numbers ascend, and the absent one is the greatest
abbrev pub row_cmp : Option ℕ → Option ℕ → Ordering
row_cmp None None = Equal
row_cmp None (Some j) = Greater
row_cmp (Some i) None = Less
row_cmp (Some i) (Some j) = nat_cmp i j

-- by (left, right), and by (right, left)
abbrev pub left_first : JoinPair → JoinPair → Ordering
left_first =
    then_cmp (on (λ (p : JoinPair). p.left) row_cmp) (on (λ (p : JoinPair). p.right) row_cmp)

abbrev pub right_first : JoinPair → JoinPair → Ordering
right_first =
    then_cmp (on (λ (p : JoinPair). p.right) row_cmp) (on (λ (p : JoinPair). p.left) row_cmp)
