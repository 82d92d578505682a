-- What is gathered by ids of rows.
use Rattle.std.specs.Prelude.{◌∷◌, [], ℕ, List, Option, map, All}
use Rattle.tb_value.specs.Promise.Datum.{Datum}
use Rattle.tb_value.specs.declared.sorted.IsSorted.{IsSorted}
use Rattle.tb_value.specs.declared.sorted.IsSorted.TheVariants.{Ascending, Descending, Not}
use Rattle.tb_chunk.specs.Promise.Col.{Col, concatenation}
use Rattle.tb_chunk.specs.Rows.{value_or_null}
use Rattle.tb_frame.specs.Frame.{lens, lengths, opt_taken_rows}
use Rattle.tb_gather.specs.Ids.{Id, row_or_none, NamesRow}
use Rattle.tb_gather.specs.Kept.{kept_view_array}
use Rattle.tb_gather.specs.declared.keep.Keep.{Keep}
use Rattle.tb_gather.specs.declared.keep.Keep.TheVariants.{Used}

-- the values at these numbers, Null for none
abbrev pub pick : List Datum → List (Option ℕ) → List Datum
pick vs numbers = map (value_or_null vs) numbers

-- the value that an id names in chunks, Null for none
abbrev pub value_of_id : List (List Datum) → Id → Datum
value_of_id chunks id = value_or_null (concatenation chunks) (row_or_none (lengths chunks) id)

-- where a column runs in one direction, and the rows are taken in another
abbrev pub gathered_flag : IsSorted → IsSorted → IsSorted
gathered_flag Ascending Ascending = Ascending
gathered_flag Ascending Descending = Descending
gathered_flag Descending Ascending = Descending
gathered_flag Descending Descending = Ascending
gathered_flag _ _ = Not

-- the rows of a column that ids name, in one chunk over the buffers that are kept, with this flag
abbrev pub named_rows : Keep → List Id → IsSorted → Col → Col
named_rows keep ids flag c = record c
    { chunks = map (value_of_id c.chunks) ids ∷ []; flag = flag; view_arrays = kept_view_array keep (lens c) ids c.view_arrays ∷ [] }

-- the rows that ids name which run so, over the buffers of the only chunk, or those in use, or those of all
abbrev pub gathered_column : List Id → IsSorted → Col → Col
gathered_column ids sorted c = named_rows Used ids (gathered_flag c.flag sorted) c

-- the same rows, whatever their order
abbrev pub opt_gathered_column : List Id → Col → Col
opt_gathered_column ids c = named_rows Used ids Not c

-- the rows of these numbers, which run so: where they ascend the column's flag stays, where they descend it is turned round, and where nothing is said of them it is Not
abbrev pub gathered_rows : List (Option ℕ) → IsSorted → Col → Col
gathered_rows rows sorted c = record (opt_taken_rows rows c) { flag = gathered_flag sorted c.flag }

-- each id is none or names a row of the column
abbrev pub NameRows : List Id → Col → Type 0
NameRows ids c = All (NamesRow (lens c)) ids
