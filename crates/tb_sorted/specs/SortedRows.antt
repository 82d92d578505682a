-- Keys with their rows, sorted by key.
use Rattle.std.specs.Prelude.{ℕ, ℤ, pos, ◌≡◌, Bool, List, length, map, filter, Option, Some, None, IsSorted, IsPermutation, slice_index_or}
use Rattle.std.specs.Ordering.{int_cmp, int_eq}
use Rattle.tb_value.specs.Promise.Pairs.{row_numbers}
use Rattle.tb_value.specs.declared.error.Side.{Side}
use Rattle.tb_value.specs.declared.error.Side.TheVariants.{Left, Right}
use Rattle.tb_value.specs.declared.index.JoinPair.{JoinPair}
use Rattle.tb_merge.specs.Keys.{key_at}

-- the keys, each with its row
abbrev pub with_rows : List ℤ → List (ℤ × ℕ)
with_rows keys = map (λ i. (key_at keys i, i)) (row_numbers (length keys))

abbrev pub keys_of : List (ℤ × ℕ) → List ℤ
keys_of rows = map (λ (p : ℤ × ℕ). p.0) rows

-- stored keys, each as the number that it is, with their rows
abbrev pub numbered_keys : {N : Type 0} → (N → ℤ) → List (N × ℕ) → List (ℤ × ℕ)
numbered_keys number rows = map (λ p. (number p.0, p.1)) rows

-- whether a row has the key
abbrev pub has_key : ℤ → ℤ × ℕ → Bool
has_key v p = int_eq v p.0

-- the rows stand by their keys, and those of one key as they stood
pub record AreSortedRows (keys : List ℤ) (rows : List (ℤ × ℕ)) : Type 0 where
  pub ascends : IsSorted int_cmp (keys_of rows)
  pub permutation : IsPermutation (with_rows keys) rows
  pub stable : (v : ℤ) → filter (has_key v) rows ≡ filter (has_key v) (with_rows keys)

-- the row at a place
abbrev pub row_at : List (ℤ × ℕ) → ℕ → ℕ
row_at rows i = (slice_index_or rows i (pos 0, 0)).1

abbrev pub row_or_none : List (ℤ × ℕ) → Option ℕ → Option ℕ
row_or_none rows None = None
row_or_none rows (Some i) = Some (row_at rows i)

-- the place of a pair on a side, and the pair with the row that stands there
abbrev pub place_on : Side → JoinPair → Option ℕ
place_on Left p = p.left
place_on Right p = p.right

abbrev pub placed : Side → List (ℤ × ℕ) → JoinPair → JoinPair
placed Left rows p = record { left = row_or_none rows p.left; right = p.right }
placed Right rows p = record { left = p.left; right = row_or_none rows p.right }
