-- What holds of a list that is put in an order, and of listed rows in groups.
use Rattle.std.specs.Prelude.{◌≡◌, ℕ, Bool, List, IsSorted, filter, length, map, slice_index_or}
use Rattle.std.specs.Cmp.{IsEquivalence, IsTotalOrder}
use Rattle.std.specs.List.Sorted.{IsStable}
use Rattle.std.specs.declared.cmp.Ordering.{Ordering}
use Rattle.tb_value.specs.Promise.Pairs.{row_numbers}
use Rattle.tb_rows.specs.InGroups.{firsts_in, groups_in, listed_test}
use Rattle.tb_rows.specs.Promise.InOrder.{in_order}
use Rattle.tb_rows.specs.Promise.Rows.{first_rows}

-- it is sorted, what ties stands in it as before, and no other list is so
abbrev pub OrderedOnce : Type 0 → Type 0
OrderedOnce X = (cmp : X → X → Ordering) → IsTotalOrder cmp → (xs : List X)
    → IsSorted cmp (in_order cmp xs) × IsStable cmp xs (in_order cmp xs)
    × ((ys : List X) → IsSorted cmp ys → IsStable cmp xs ys → ys ≡ in_order cmp xs)

-- places of a list in groups are the list's rows in groups: by the first rows, and by the rows of each group
abbrev pub PlacesAreRows : Type 0
PlacesAreRows = (test : ℕ → ℕ → Bool) → IsEquivalence test → (rows : List ℕ)
    → (map (λ j. slice_index_or rows j 0) (first_rows (listed_test rows test) (length rows))
    ≡ firsts_in test rows)
    × (map
    (λ x.
    map (λ j. slice_index_or rows j 0)
    (filter (listed_test rows test x) (row_numbers (length rows))))
    (first_rows (listed_test rows test) (length rows))
    ≡ groups_in test rows)
