-- The join of two columns of whole numbers, whose row numbers go into the caller's rooms.
use Rattle.std.specs.Prelude.{◌≡◌, ◌⊎◌, ◌&&◌, ◌||◌, ◌==◌, ℕ, ℤ, Bool, true, false, not, nat_lt, List, length, Option, Some, None}
use Rattle.tb_value.specs.declared.limits.TheConstants.{MAX_ROWS}
use Rattle.tb_frame.specs.declared.args.JoinType.{JoinType}
use Rattle.tb_frame.specs.declared.args.JoinType.TheVariants.{Inner, Left, Right, Full, Semi, Anti}
use Rattle.tb_keys.specs.Promise.Listing.{value_listing}
use Rattle.tb_row_join.specs.Promise.Rooms.{are_marks, marked_values, ArePairsHandedOver}
use Rattle.muigratu_c.specs.declared.MuigratuEnded.{MuigratuEnded}

-- the number of a kind
abbrev pub number_of : JoinType → ℕ
number_of Inner = 0
number_of Left = 1
number_of Right = 2
number_of Full = 3
number_of Semi = 4
number_of Anti = 5

-- two columns of numbers with marks, and the kind by its number
pub record RowsAsked : Type 0 where
  pub left : List ℤ
  pub left_there : List ℕ
  pub right : List ℤ
  pub right_there : List ℕ
  pub how : ℕ

-- no kind has the number, or marks are neither none nor as many as numbers
abbrev pub is_unfit : RowsAsked → Bool
is_unfit q =
    not (nat_lt q.how 6 && are_marks q.left q.left_there && are_marks q.right q.right_there)

-- a side has more rows than a table may have
abbrev pub is_long : RowsAsked → Bool
is_long q = nat_lt MAX_ROWS (length q.left) || nat_lt MAX_ROWS (length q.right)

-- the status of what isn't joined, by the first cause
abbrev pub fault_by : Bool → Bool → Option ℕ
fault_by true long = Some 3
fault_by false true = Some 8
fault_by false false = None

abbrev pub rows_fault : RowsAsked → Option ℕ
rows_fault q = fault_by (is_unfit q) (is_long q)

-- nothing was written, since there is a fault, or none and memory was wanting; or the pairs of the join were handed over
abbrev pub HasRows : RowsAsked → Bool → List ℕ → List ℕ → List ℕ → List ℕ → MuigratuEnded → Type 0
HasRows q nulls left_before right_before left_after right_after ended =
    (((rows_fault q ≡ Some ended.status) ⊎ ((rows_fault q ≡ None) × (ended.status ≡ 6)))
    × (ended.length ≡ 0)
    × (left_after ≡ left_before)
    × (right_after ≡ right_before))
    ⊎ ((rows_fault q ≡ None) × (ended.status ≡ 0)
    × ((kind : JoinType) × (number_of kind ≡ q.how)
    × ArePairsHandedOver kind
    (value_listing nulls kind (marked_values q.left q.left_there)
    (marked_values q.right q.right_there))
    left_before right_before left_after right_after ended.length))
