-- Ids of rows in chunks: a chunk and a row in it, or none.
use Rattle.std.specs.Prelude.{◌≡◌, ◌<◌, ◌≤◌, ◌+◌, ◌⊎◌, ℕ, List, Option, Some, None, IsSome, length, take, slice_index_or}
use Rattle.std.specs.List.{All, AllPairs, sum}
use Rattle.std.specs.Option.{option_map}
use Rattle.tb_value.specs.declared.limits.TheConstants.{TOO_MANY_CHUNKS}
use Rattle.tb_value.specs.declared.sorted.IsSorted.{IsSorted}
use Rattle.tb_value.specs.declared.sorted.IsSorted.TheVariants.{Ascending, Descending, Not}
use Rattle.tb_chunk.specs.Promise.Col.{Col}
use Rattle.tb_frame.specs.Frame.{AreCutAlike}

abbrev pub Id : Type 0
Id = Option (ℕ × ℕ)

-- the number of a row through all chunks of these lengths
abbrev pub row_of : List ℕ → ℕ × ℕ → ℕ
row_of lens p = sum (take p.0 lens) + p.1

abbrev pub row_or_none : List ℕ → Id → Option ℕ
row_or_none lens id = option_map (row_of lens) id

-- none, or a chunk and a row of it
abbrev pub NamesRow : List ℕ → Id → Type 0
NamesRow lens None = Unit {0}
NamesRow lens (Some p) = (p.0 < length lens) × (p.1 < slice_index_or lens p.0 0)

-- not behind the other, by chunk and then by row
abbrev pub IsUpTo : Id → Id → Type 0
IsUpTo (Some p) (Some q) = (p.0 < q.0) ⊎ ((p.0 ≡ q.0) × (p.1 ≤ q.1))
IsUpTo _ _ = Unit {0}

-- what a direction says of ids that are not none
abbrev pub StandInOrder : IsSorted → List Id → Type 0
StandInOrder Ascending ids = AllPairs IsUpTo ids
StandInOrder Descending ids = AllPairs (λ (a b : Id). IsUpTo b a) ids
StandInOrder Not ids = Unit {0}

-- ids of which a direction is said are all there and run so
abbrev pub AreAllInOrder : IsSorted → List Id → Type 0
AreAllInOrder Ascending ids = All (λ (id : Id). IsSome id) ids × StandInOrder Ascending ids
AreAllInOrder Descending ids = All (λ (id : Id). IsSome id) ids × StandInOrder Descending ids
AreAllInOrder Not ids = Unit {0}

-- not behind the other, where both are there
abbrev pub IsRowUpTo : Option ℕ → Option ℕ → Type 0
IsRowUpTo (Some i) (Some j) = i ≤ j
IsRowUpTo _ _ = Unit {0}

-- what a direction says of row numbers that are not none
abbrev pub RowsStandInOrder : IsSorted → List (Option ℕ) → Type 0
RowsStandInOrder Ascending rows = AllPairs IsRowUpTo rows
RowsStandInOrder Descending rows = AllPairs (λ (i j : Option ℕ). IsRowUpTo j i) rows
RowsStandInOrder Not rows = Unit {0}

-- row numbers of which a direction is said are all there and run so
abbrev pub AreAllRowsInOrder : IsSorted → List (Option ℕ) → Type 0
AreAllRowsInOrder Ascending rows =
    All (λ (row : Option ℕ). IsSome row) rows × RowsStandInOrder Ascending rows
AreAllRowsInOrder Descending rows =
    All (λ (row : Option ℕ). IsSome row) rows × RowsStandInOrder Descending rows
AreAllRowsInOrder Not rows = Unit {0}

-- where each chunk of these lengths starts, as a row number
pub record AreStarts (lens starts : List ℕ) : Type 0 where
  pub whole : length starts ≡ length lens
  pub each : (k : ℕ) → k < length lens → slice_index_or starts k 0 ≡ sum (take k lens)

-- the columns are cut alike, into chunks that ids of 24 bits for the chunk can name
pub record AreCutForIds (cs : List Col) : Type 0 where
  pub alike : AreCutAlike cs
  pub few : All (λ (c : Col). length c.chunks < TOO_MANY_CHUNKS) cs
