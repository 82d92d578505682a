-- The row numbers of a join, in the rooms that a caller gives: one for each side.
use Rattle.std.specs.Prelude.{◌≡◌, ℕ, ℤ, ◌≤◌, ◌<◌, ◌++◌, ◌==◌, Bool, true, List, [], ◌∷◌, drop, length, map, if◌then◌else◌, Option, Some, None}
use Rattle.std.specs.List.{zip}
use Rattle.tb_value.specs.Index.{to_number}
use Rattle.tb_value.specs.Promise.Datum.{Datum, int}
use Rattle.tb_value.specs.declared.index.JoinPair.{JoinPair}
use Rattle.tb_cell.specs.Shown.{or_null}
use Rattle.tb_frame.specs.declared.args.JoinType.{JoinType}
use Rattle.tb_frame.specs.declared.args.JoinType.TheVariants as how
use Rattle.tb_frame.specs.declared.args.MaintainOrderJoin.{MaintainOrderJoin}
use Rattle.tb_frame.specs.declared.args.MaintainOrderJoin.TheVariants as order
use Rattle.tb_frame.specs.Promise.Join.{IsOrdered}

-- a list stands at the front of a room, and the rest is as it was; where there is too little room, all of it is
abbrev pub IsHandedOver : List ℕ → List ℕ → List ℕ → Type 0
IsHandedOver list before after =
    (length list ≤ length before → after ≡ list ++ drop (length list) before)
    × (length before < length list → after ≡ before)

-- the left and the right row numbers of pairs: 4294967295 where a pair has no row of the side
abbrev pub left_numbers : List JoinPair → List ℕ
left_numbers pairs = map (λ (p : JoinPair). to_number p.left) pairs

abbrev pub right_numbers : List JoinPair → List ℕ
right_numbers pairs = map (λ (p : JoinPair). to_number p.right) pairs

-- by left rows and then by right rows; in a Right join by right rows and then by left rows
abbrev pub row_order : JoinType → MaintainOrderJoin
row_order how.Inner = order.Left
row_order how.Left = order.Left
row_order how.Right = order.Right
row_order how.Full = order.Left
row_order how.Semi = order.Left
row_order how.Anti = order.Left

-- the pairs of a listing, in that order: how many they are, and the row numbers of each side in its room
pub record ArePairsHandedOver (how : JoinType) (list : List JoinPair)
    (left_before right_before left_after right_after : List ℕ) (count : ℕ) : Type 0 where
  pub pairs : List JoinPair
  pub ordered : IsOrdered how (row_order how) pairs list
  pub many : count ≡ length pairs
  pub lefts : IsHandedOver (left_numbers pairs) left_before left_after
  pub rights : IsHandedOver (right_numbers pairs) right_before right_after

-- there are no marks, or as many as numbers
abbrev pub are_marks : List ℤ → List ℕ → Bool
are_marks numbers [] = true
are_marks numbers (m ∷ ms) = length (m ∷ ms) == length numbers

-- the numbers whose mark isn't 0, and none for the others; without marks all of them
abbrev pub marked : List ℤ → List ℕ → List (Option ℤ)
marked numbers [] = map Some numbers
marked numbers (m ∷ ms) =
    map (λ (n : ℤ × ℕ). if n.1 == 0 then None else Some n.0) (zip numbers (m ∷ ms))

-- the values of a column of them
abbrev pub marked_values : List ℤ → List ℕ → List Datum
marked_values numbers marks = map (or_null int) (marked numbers marks)
