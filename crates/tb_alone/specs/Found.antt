-- The right rows that are found for each left row.
use Rattle.std.specs.Prelude.{◌≡◌, ◌<◌, ◌≤◌, ℕ, Bool, false, List, [], length, filter, slice_index_or}
use Rattle.std.specs.List.{list_any}
use Rattle.tb_value.specs.Promise.Pairs.{row_numbers, matched_pairs, right_unmet}
use Rattle.tb_value.specs.declared.index.JoinPair.{JoinPair}
use Rattle.tb_value.specs.declared.limits.TheConstants.{MAX_ROWS}
use Rattle.tb_frame.specs.Promise.Join.{Request, matches}
use Rattle.tb_frame.specs.Promise.Table.{height}
use Rattle.tb_keys.specs.Met.{left_alone}

-- those of a left row
abbrev pub rows_of : List (List ℕ) → ℕ → List ℕ
rows_of found i = slice_index_or found i []

-- for each left row the right rows that match it, ascending, of which there are few
pub record AreFound (q : Request) (found : List (List ℕ)) : Type 0 where
  pub count : length found ≡ height q.left
  pub few : height q.right ≤ MAX_ROWS
  pub each : (i : ℕ) → i < height q.left
      → rows_of found i ≡ filter (matches q i) (row_numbers (height q.right))

-- of r right rows, those that match one of the first n left rows are marked
pub record AreMarked (m : ℕ → ℕ → Bool) (n r : ℕ) (met : List Bool) : Type 0 where
  pub count : length met ≡ r
  pub each : (j : ℕ) → j < r
      → slice_index_or met j false ≡ list_any (λ i. m i j) (row_numbers n)

-- what a listing of the request is made of: the pairs of two rows, the left rows that have a match or have none, and the
-- right rows that have none
abbrev pub matched_of : Request → List JoinPair
matched_of q = matched_pairs (height q.left) (height q.right) (matches q)

abbrev pub left_alone_of : Bool → Request → List JoinPair
left_alone_of met q = left_alone met (height q.left) (height q.right) (matches q)

abbrev pub right_unmet_of : Request → List JoinPair
right_unmet_of q = right_unmet (height q.left) (height q.right) (matches q)
