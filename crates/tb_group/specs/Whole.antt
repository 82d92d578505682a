-- What the parts give, put together.
use Rattle.std.specs.Prelude.{ℕ, ◌<◌, ◌≤◌, ◌≡◌, not, List, [], length, map, slice_index_or, Option, None, IsSome, unwrap_or}
use Rattle.std.specs.List.{All, flat_map}
use Rattle.tb_value.specs.Promise.Kind as kind
use Rattle.tb_value.specs.Promise.Names.{Name}
use Rattle.tb_value.specs.Promise.Refusals.{when}
use Rattle.tb_value.specs.declared.error.ComputeCause.TheVariants.{SumRange}
use Rattle.tb_value.specs.declared.error.PolarsError.{PolarsError}
use Rattle.tb_value.specs.declared.error.PolarsError.TheVariants.{ComputeError}
use Rattle.tb_value.specs.declared.limits.TheConstants.{MAX_ROWS}
use Rattle.tb_frame.specs.Promise.Table.{TableColumn}
use Rattle.tb_agg.specs.Kept.{KeptView, all_joined, kept_at, kept_fits, kept_kind, kept_len, kept_values, nothing, IsKeptFor}
use Rattle.tb_agg.specs.declared.table.Aggregate.{Aggregate}
use Rattle.tb_group.specs.Asked.{Asked}
use Rattle.tb_group.specs.Parts.{PartView}

-- the first rows of all parts, one part after another
abbrev pub all_firsts : List PartView → List ℕ
all_firsts parts = flat_map (λ (v : PartView). v.firsts) parts

-- what all parts keep for the aggregate at a seat, one part after another
abbrev pub gathered : Aggregate → ℕ → List PartView → KeptView
gathered agg seat parts =
    all_joined agg (map (λ (v : PartView). slice_index_or v.kept seat (nothing agg)) parts)

-- and of the groups at these places alone
abbrev pub placed : Asked → ℕ → List PartView → List ℕ → KeptView
placed a seat parts places = kept_at places (gathered a.0.agg seat parts)

-- why there is no column of it: a sum is out of range; and else the column, which has this name
abbrev pub made_cause : Name → Asked → ℕ → List PartView → List ℕ → Option PolarsError
made_cause source a seat parts places =
    when (not (kept_fits a.1.kind (placed a seat parts places))) (ComputeError (SumRange source))

abbrev pub made_column : Name → Asked → ℕ → List PartView → List ℕ → TableColumn
made_column name a seat parts places = record {
  name = name;
  kind = unwrap_or (kept_kind a.1.kind (placed a seat parts places)) kind.null;
  values = kept_values a.1.values (placed a seat parts places);
}

-- all parts have the seat, and of what they keep at these places a column can be made
pub record CanBeMade (places : List ℕ) (a : Asked) (seat : ℕ) (parts : List PartView) : Type 0 where
  pub there : All (λ (v : PartView). seat < length v.kept) parts
  pub within : All (λ p. p < kept_len (gathered a.0.agg seat parts)) places
  pub kept : IsKeptFor (length a.1.values) (placed a seat parts places)
  pub taken : IsSome (kept_kind a.1.kind (placed a seat parts places))

-- of each aggregate that is asked for, by its place: why there is no column of the one that is made for it, and else that column
abbrev pub cause_at : List Asked → List Asked → List ℕ → List PartView → List ℕ → ℕ → Option PolarsError
cause_at asked made seats parts places k = slice_index_or
    (map
    (λ (a : Asked). made_cause
    (slice_index_or (map (λ (b : Asked). b.0.column) asked) k [])
    a (slice_index_or seats k 0) parts places)
    made)
    (slice_index_or seats k 0) None

abbrev pub no_column : TableColumn
no_column = record { name = []; kind = kind.null; values = [] }

abbrev pub placed_at : List Asked → List Asked → List ℕ → List PartView → List ℕ → ℕ → TableColumn
placed_at asked made seats parts places k = slice_index_or
    (map
    (λ (a : Asked). made_column
    (slice_index_or (map (λ (b : Asked). b.0.name) asked) k [])
    a (slice_index_or seats k 0) parts places)
    made)
    (slice_index_or seats k 0) no_column

-- of what the parts give, a column can be made for each aggregate
pub record AreWhole (made : List Asked) (parts : List PartView) (places : List ℕ) : Type 0 where
  pub each : (k : ℕ) (a : Asked) → k < length made → a ≡ slice_index_or made k a
      → CanBeMade places a k parts
  pub short : length places ≤ MAX_ROWS

-- and so it can at the seats that those asked for have among them
abbrev pub AreWholeAt : List Asked → List ℕ → List PartView → List ℕ → Type 0
AreWholeAt made seats parts places =
    AreWhole made parts places × All (λ seat. seat < length made) seats
