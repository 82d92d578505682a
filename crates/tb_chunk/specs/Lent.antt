-- Columns that are lent, and columns put into one chunk.
use Rattle.std.specs.Prelude.{List, [], ◌∷◌, map}
use Rattle.std.specs.Borrow.{Bor}
use Rattle.tb_chunk.specs.Promise.Col.{Col, values}
use Rattle.tb_view.specs.ViewArrays.{joined_view_array}

abbrev pub lent_columns : List (Bor Col) → List Col
lent_columns rs = map (λ (r : Bor Col). r.now) rs

-- the same values in one chunk, with the buffers of all
abbrev pub in_one_chunk : Col → Col
in_one_chunk c =
    record c { chunks = values c ∷ []; view_arrays = joined_view_array c.view_arrays ∷ [] }
