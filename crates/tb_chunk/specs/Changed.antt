-- What becomes of a column where rows of it are taken. Its chunks become one, and keep the buffers of all.
use Rattle.std.specs.Prelude.{ℕ, ℤ, List, [], ◌∷◌, Option, Some, length, map, take, drop, slice_index_or}
use Rattle.tb_value.specs.Promise.Datum.{null}
use Rattle.tb_value.specs.declared.sorted.IsSorted.TheVariants.{Not}
use Rattle.tb_chunk.specs.Promise.Col.{Col, values}
use Rattle.tb_chunk.specs.Coalesced.{coalesced_values, coalesced_view_array}
use Rattle.tb_chunk.specs.Rows.{value_or_null}
use Rattle.tb_view.specs.ViewArrays.{picked_of, joined_view_array, window_of}
use Rattle.tb_cell.specs.Window.{window}

-- these rows of a column in this order
abbrev pub taken_rows : List ℕ → Col → Col
taken_rows rows c = record c
    { chunks = map (λ r. slice_index_or (values c) r null) rows ∷ []; flag = Not; view_arrays = picked_of (λ r. Some r) rows (joined_view_array c.view_arrays) ∷ [] }

-- the same, with Null where there is no row
abbrev pub opt_taken_rows : List (Option ℕ) → Col → Col
opt_taken_rows rows c = record c
    { chunks = map (value_or_null (values c)) rows ∷ []; flag = Not; view_arrays = picked_of (λ r. r) rows (joined_view_array c.view_arrays) ∷ [] }

-- some rows from start on
abbrev pub part_of : ℕ → ℕ → Col → Col
part_of start len c = record c
    { chunks = take len (drop start (values c)) ∷ []; view_arrays = window_of start len (joined_view_array c.view_arrays) ∷ [] }

-- the part that an offset and a length name
abbrev pub sliced_rows : ℤ → ℕ → Col → Col
sliced_rows offset len c = record c {
  chunks = window (length (values c)) offset len (values c) ∷ [];
  view_arrays = record (joined_view_array c.view_arrays)
      { views = window (length (values c)) offset len (joined_view_array c.view_arrays).views }
      ∷ [];
}

-- the first column, with the values of the second where its own are Null
abbrev pub coalesced_column : Col → Col → Col
coalesced_column c d = record c
    { chunks = coalesced_values (values c) (values d) ∷ []; flag = Not; view_arrays = coalesced_view_array (values c) (joined_view_array c.view_arrays) (joined_view_array d.view_arrays) ∷ [] }
