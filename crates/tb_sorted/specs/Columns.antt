-- Key columns, and the pairs of two by their values.
use Rattle.std.specs.Prelude.{◌≡◌, Bool, false, ◌≤◌, List, length, map, Option, Some, None}
use Rattle.std.specs.Prelude.{IsSorted as IsInOrder}
use Rattle.tb_value.specs.Promise.Datum.{Datum}
use Rattle.tb_value.specs.declared.limits.TheConstants.{MAX_ROWS}
use Rattle.tb_chunk.specs.Chunk.{or_null}
use Rattle.tb_chunk.specs.Promise.Col.{Col}
use Rattle.tb_cell.specs.Promise.Flag.{datum_cmp, nulls}
use Rattle.tb_chunk.specs.Lent.{in_one_chunk}
use Rattle.tb_sorted.specs.declared.path.SortedFirst.{SortedFirst}
use Rattle.tb_sorted.specs.declared.path.SortedFirst.TheVariants as the

-- the values of each chunk, of cells that show themselves so
abbrev pub cell_lists : {N : Type 0} → (N → Datum) → List (List (Option N)) → List (List Datum)
cell_lists shows chunks = map (λ c. map (or_null shows) c) chunks

-- keys, none of which is Null
pub record AreMergeKeys (vs : List Datum) : Type 0 where
  pub present : length (nulls vs) ≡ 0
  pub few : length vs ≤ MAX_ROWS

-- The side that isn't sorted first ascends, or both do where none is. The left one is sorted only where its rows without a match are dropped
abbrev pub DoOthersAscend : SortedFirst → Bool → List Datum → List Datum → Type 0
DoOthersAscend the.Neither keep us vs = IsInOrder datum_cmp us × IsInOrder datum_cmp vs
DoOthersAscend the.Right keep us vs = IsInOrder datum_cmp us
DoOthersAscend the.Left keep us vs = (keep ≡ false) × IsInOrder datum_cmp vs

-- two sides of keys that may be merged once the one is sorted
pub record MayMerge (first : SortedFirst) (keep : Bool) (us vs : List Datum) : Type 0 where
  pub left : AreMergeKeys us
  pub right : AreMergeKeys vs
  pub ascend : DoOthersAscend first keep us vs

-- a column that has one chunk, or one made of it that has
abbrev pub IsInOneChunk : Col → Option Col → Type 0
IsInOneChunk c None = length c.chunks ≡ 1
IsInOneChunk c (Some d) = d ≡ in_one_chunk c
