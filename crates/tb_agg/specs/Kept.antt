-- What one pass over rows keeps of their groups for an aggregate, of which its column is made.
use Rattle.std.specs.Prelude.{◌++◌, ◌≤◌, ℕ, ℤ, pos, Bool, true, List, [], ◌∷◌, fold, length, map, slice_index_or, Option, Some, None, IsSomeAnd, ⊤}
use Rattle.std.specs.List.{All}
use Rattle.tb_value.specs.Promise.Datum.{Datum, int}
use Rattle.tb_value.specs.Promise.Kind.{Kind}
use Rattle.tb_value.specs.Promise.Kind as kind
use Rattle.tb_value.specs.Promise.Names.{Name}
use Rattle.tb_value.specs.declared.limits.TheConstants.{MAX_ROWS}
use Rattle.tb_value.specs.declared.sorted.IsSorted.TheVariants.{Not}
use Rattle.tb_chunk.specs.Made.{IsOf}
use Rattle.tb_chunk.specs.Promise.Col.{Col, values}
use Rattle.tb_chunk.specs.Rows.{value_or_null, IsRowOf}
use Rattle.tb_rows.specs.Promise.Rows.{row_value}
use Rattle.tb_agg.specs.Picking.{picked_row}
use Rattle.tb_agg.specs.Promise.Aggregates.{sum_kind, total}
use Rattle.tb_agg.specs.Promise.Outcome.{are_in_range}
use Rattle.tb_agg.specs.Sums.{shown_sums}
use Rattle.tb_agg.specs.declared.kept.Form.{Form}
use Rattle.tb_agg.specs.declared.kept.Form.TheVariants.{Picked, Counted, Summed}
use Rattle.tb_agg.specs.declared.kept.Kept.{Kept}
use Rattle.tb_agg.specs.declared.picks.Pick.TheVariants.{FirstRow, LastRow, LeastValue, GreatestValue}
use Rattle.tb_agg.specs.declared.table.Aggregate.{Aggregate}
use Rattle.tb_agg.specs.declared.table.Aggregate.TheVariants.{First, Last, Sum, Min, Max, Count}

-- of each group a row whose value stands for it, or how many rows there are, or the exact sum
pub data KeptView : Type 0 where
  picked : List (Option ℕ) → KeptView
  counted : List ℕ → KeptView
  summed : List ℤ → KeptView

abbrev pub shown_form : Form → KeptView
shown_form (Picked rows) = picked rows.items
shown_form (Counted counts) = counted counts.items
shown_form (Summed sums) = summed (shown_sums sums)

abbrev pub shown_kept : Kept → KeptView
shown_kept k = shown_form k.form

-- what an aggregate needs of groups of rows
abbrev pub kept_of : Aggregate → List Datum → List (List ℕ) → KeptView
kept_of First vs groups = picked (map (picked_row FirstRow vs) groups)
kept_of Last vs groups = picked (map (picked_row LastRow vs) groups)
kept_of Min vs groups = picked (map (picked_row LeastValue vs) groups)
kept_of Max vs groups = picked (map (picked_row GreatestValue vs) groups)
kept_of Count vs groups = counted (map (λ (rows : List ℕ). length rows) groups)
kept_of Sum vs groups = summed (map (λ rows. total (map (row_value vs) rows)) groups)

-- and of no group
abbrev pub nothing : Aggregate → KeptView
nothing agg = kept_of agg [] []

-- what is kept in a form, and nothing in another
abbrev pub picked_in : KeptView → List (Option ℕ)
picked_in (picked rows) = rows
picked_in _ = []

abbrev pub counted_in : KeptView → List ℕ
counted_in (counted counts) = counts
counted_in _ = []

abbrev pub summed_in : KeptView → List ℤ
summed_in (summed sums) = sums
summed_in _ = []

-- what is kept, and behind it what else is kept in its form
abbrev pub joined : KeptView → KeptView → KeptView
joined (picked rows) k = picked (rows ++ picked_in k)
joined (counted counts) k = counted (counts ++ counted_in k)
joined (summed sums) k = summed (sums ++ summed_in k)

-- what is kept for an aggregate in several places, one behind another
abbrev pub all_joined : Aggregate → List KeptView → KeptView
all_joined agg ks = fold joined (nothing agg) ks

-- how much is kept
abbrev pub kept_len : KeptView → ℕ
kept_len (picked rows) = length rows
kept_len (counted counts) = length counts
kept_len (summed sums) = length sums

-- items of a list at places, and another where there is none
abbrev pub items_at : {X : Type 0} → X → List X → List ℕ → List X
items_at other xs places = map (λ p. slice_index_or xs p other) places

-- what is kept of the groups at these places
abbrev pub kept_at : List ℕ → KeptView → KeptView
kept_at places (picked rows) = picked (items_at None rows places)
kept_at places (counted counts) = counted (items_at 0 counts places)
kept_at places (summed sums) = summed (items_at (pos 0) sums places)

-- the values that are made of it, of a column with these values
abbrev pub kept_values : List Datum → KeptView → List Datum
kept_values vs (picked rows) = map (value_or_null vs) rows
kept_values vs (counted counts) = map (λ n. int (pos n)) counts
kept_values vs (summed sums) = map int sums

-- and their type, where there is one
abbrev pub kept_kind : Kind → KeptView → Option Kind
kept_kind t (picked rows) = Some t
kept_kind t (counted counts) = Some kind.uint32
kept_kind t (summed sums) = sum_kind t

-- whether sums are in the range of their type
abbrev pub kept_fits : Kind → KeptView → Bool
kept_fits t (summed sums) = are_in_range (sum_kind t) sums
kept_fits t _ = true

-- the rows that are picked are rows of a column that has so many, and numbers of rows are numbers of rows of a column
abbrev pub AreRowsKept : ℕ → KeptView → Type 0
AreRowsKept n (picked rows) = All (IsRowOf n) rows
AreRowsKept n (counted counts) = All (λ k. k ≤ MAX_ROWS) counts
AreRowsKept n (summed sums) = ⊤

-- a column can be made of it, of one that has so many rows
pub record IsKeptFor (n : ℕ) (k : KeptView) : Type 0 where
  pub rows : AreRowsKept n k
  pub few : kept_len k ≤ MAX_ROWS

-- the column that is made of it has this name
abbrev pub IsKeptColumn : Name → Col → KeptView → Col → Type 0
IsKeptColumn name c k made =
    IsSomeAnd (kept_kind c.kind k) (λ t. IsOf name t (kept_values (values c) k ∷ []) Not made)
