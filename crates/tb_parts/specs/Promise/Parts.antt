-- Rows that fall into parts, and the requests of the parts.
use Rattle.std.specs.Prelude.{◌≡◌, ℕ, ◌<◌, ◌==◌, Bool, List, length, map, filter, slice_index_or, Option, Some, None}
use Rattle.std.specs.Option.{option_map}
use Rattle.tb_value.specs.Promise.Datum.{Datum, null}
use Rattle.tb_value.specs.Promise.Pairs.{row_numbers}
use Rattle.tb_value.specs.declared.index.JoinPair.{JoinPair}
use Rattle.tb_frame.specs.declared.args.JoinType.{JoinType}
use Rattle.tb_frame.specs.Promise.Table.{TableColumn, Table, height, row_at}
use Rattle.tb_frame.specs.Promise.Join.{Request, listing, listing_of}

-- the rows, of n and ascending, that fall into part p
abbrev pub rows_in : (ℕ → ℕ) → ℕ → ℕ → List ℕ
rows_in part n p = filter (λ i. p == part i) (row_numbers n)

-- the number that the row at a place of some rows has in the whole
abbrev pub whole_row : List ℕ → ℕ → ℕ
whole_row rows a = slice_index_or rows a 0

-- a pair of some left and some right rows, by the numbers that they have in the whole
abbrev pub whole_pair : List ℕ → List ℕ → JoinPair → JoinPair
whole_pair ls rs pair = record
    { left = option_map (whole_row ls) pair.left; right = option_map (whole_row rs) pair.right }

-- what is listed of these rows alone, by the numbers that they have in the whole
abbrev pub listing_among : JoinType → (ℕ → ℕ → Bool) → List ℕ → List ℕ → List JoinPair
listing_among how m ls rs = map (whole_pair ls rs)
    (listing_of how (length ls) (length rs) (λ a b. m (whole_row ls a) (whole_row rs b)))

-- the part of a pair is that of its left row, and of its right one where there is no left one
abbrev pub part_of_rows : (ℕ → ℕ) → (ℕ → ℕ) → Option ℕ → Option ℕ → ℕ
part_of_rows left right (Some i) row = left i
part_of_rows left right None (Some j) = right j
part_of_rows left right None None = 0

abbrev pub part_of_pair : (ℕ → ℕ) → (ℕ → ℕ) → JoinPair → ℕ
part_of_pair left right pair = part_of_rows left right pair.left pair.right

-- THE REQUEST OF A PART

-- these rows of a column, and of a table
abbrev pub column_among : List ℕ → TableColumn → TableColumn
column_among rows c = record c { values = map (λ i. slice_index_or c.values i null) rows }

abbrev pub table_among : List ℕ → Table → Table
table_among rows t = map (column_among rows) t

-- the request of some left and some right rows
abbrev pub request_among : Request → List ℕ → List ℕ → Request
request_among q ls rs = record q {
  left = table_among ls q.left;
  right = table_among rs q.right;
  left_keys = table_among ls q.left_keys;
  right_keys = table_among rs q.right_keys;
}

-- rows fall into parts by the fields of their keys
abbrev pub left_part : (List Datum → ℕ) → Request → ℕ → ℕ
left_part part q i = part (row_at q.left_keys i)

abbrev pub right_part : (List Datum → ℕ) → Request → ℕ → ℕ
right_part part q j = part (row_at q.right_keys j)

abbrev pub left_rows : (List Datum → ℕ) → Request → ℕ → List ℕ
left_rows part q p = rows_in (left_part part q) (height q.left) p

abbrev pub right_rows : (List Datum → ℕ) → Request → ℕ → List ℕ
right_rows part q p = rows_in (right_part part q) (height q.right) p

abbrev pub part_request : (List Datum → ℕ) → Request → ℕ → Request
part_request part q p = request_among q (left_rows part q p) (right_rows part q p)

-- what is listed of a part, by the numbers that its rows have in the whole
abbrev pub part_listing : (List Datum → ℕ) → Request → ℕ → List JoinPair
part_listing part q p = map (whole_pair (left_rows part q p) (right_rows part q p))
    (listing (part_request part q p))

-- both sides have as many keys, and each row falls into one of n parts
pub record IsParted (part : List Datum → ℕ) (n : ℕ) (q : Request) : Type 0 where
  pub keys : length q.left_keys ≡ length q.right_keys
  pub left : (i : ℕ) → i < height q.left → left_part part q i < n
  pub right : (j : ℕ) → j < height q.right → right_part part q j < n
