-- Where the groups of rows stand in the answer.
use Rattle.std.specs.Prelude.{ℕ, zero, suc, ◌==◌, ◌+◌, ◌*◌, Bool, if◌then◌else◌, List, length, map, Option, Some, None, slice_index}
use Rattle.tb_value.specs.Promise.Pairs.{row_numbers}
use Rattle.tb_rows.specs.declared.groups.Groups.{Groups}

-- cells stand header after header, and for each header in the order of the answer's rows
abbrev pub cell_at : ℕ → ℕ → ℕ → ℕ
cell_at height x y = y * height + x

-- the cell of a group, which has the row and the header of the group's first row
abbrev pub group_cell : Groups → Groups → Groups → ℕ → ℕ
group_cell groups rows headers k =
    cell_at (length rows.firsts.items)
    (slice_index rows.numbers.items (slice_index groups.firsts.items k))
    (slice_index headers.numbers.items (slice_index groups.firsts.items k))

-- the last of the numbers below n that passes a test
abbrev pub last_below : (ℕ → Bool) → ℕ → Option ℕ
last_below p zero = None
last_below p (suc n) = (if p n then Some n else last_below p n)

-- for each cell the group that stands in it
abbrev pub grid : Groups → Groups → Groups → List (Option ℕ)
grid groups rows headers =
    map (λ j. last_below (λ k. group_cell groups rows headers k == j) (length groups.firsts.items))
    (row_numbers (length headers.firsts.items * length rows.firsts.items))
