-- Runs: values, each with its count, which says how often it stands. What a chunk of them is.
use Rattle.std.specs.Prelude.{◌≡◌, ◌≤◌, ℕ, List, [], ◌∷◌, Option, Some, None, Result, Ok, Err, zero, suc, map, replicate}
use Rattle.std.specs.List.{All, flat_map, fold, sum_by}
use Rattle.tb_value.specs.Promise.Datum.{Datum}
use Rattle.tb_value.specs.Promise.Kind.{Kind}
use Rattle.tb_value.specs.See.{datum}
use Rattle.tb_value.specs.Promise.Typed.{HasType}
use Rattle.tb_value.specs.declared.any_value.AnyValue.{AnyValue}
use Rattle.tb_value.specs.declared.error.PolarsError.{PolarsError}
use Rattle.tb_value.specs.declared.limits.TheConstants.{MAX_ROWS}
use Rattle.tb_value.specs.declared.sorted.IsSorted.TheVariants.{Not}
use Rattle.tb_chunk.specs.Promise.Col.{Col}
pub use Rattle.tb_view.specs.RunViews.{data_runs, laid_runs, text_runs}
use Rattle.tb_view.specs.Promise.Layout.{buffers_of}
use Rattle.tb_view.specs.Layout.{Building, building_of, with_nulls, with_rows}
use Rattle.tb_chunk.specs.Made.{IsRefused}
use Rattle.tb_chunk.specs.ChunkViewArrays.{chunk_view_arrays}
use Rattle.tb_chunk.specs.Seen.{chunk_lists, storage}
use Rattle.tb_value.specs.Promise.Texts.{text_of}
use Rattle.tb_view.specs.Promise.ViewArrays.{ViewArray}
use Rattle.tb_chunk.specs.declared.chunks.Chunks.{Chunks}

-- each value as often as its count says, in the order of the runs
abbrev pub expansion : {A : Type 0} → List (A × ℕ) → List A
expansion rs = flat_map (λ r. replicate r.1 r.0) rs

-- the rows of all
abbrev pub total_of : {A : Type 0} → List (A × ℕ) → ℕ
total_of rs = sum_by (λ r. r.1) rs

-- the value of each run is of the type, that of a run of no row too
abbrev pub AreRunsOf : Kind → List (Datum × ℕ) → Type 0
AreRunsOf t rs = All (HasType t) (map (λ r. r.0) rs)

-- the rows of all are no more than a column can have
abbrev pub AreFewRows : {A : Type 0} → List (A × ℕ) → Type 0
AreFewRows rs = total_of rs ≤ MAX_ROWS

-- the chunk of these runs for a column of type t, stored by the type s, or why there is none
abbrev pub IsChunkOfRuns : Kind → Kind → List (Datum × ℕ) → Result Chunks PolarsError → Type 0
IsChunkOfRuns t s rs (Ok c) = AreRunsOf t rs × AreFewRows rs
    × (chunk_lists c ≡ expansion rs ∷ [])
    × (storage c ≡ s)
    × (chunk_view_arrays c ≡ laid_runs (text_runs rs) ∷ [])
IsChunkOfRuns t s rs (Err e) = IsRefused (AreRunsOf t rs) (AreFewRows rs) e

-- the column of this name and type and these runs, in one chunk, or why there is none
abbrev pub IsMadeOfRuns : List ℕ → Kind → List (Datum × ℕ) → Result Col PolarsError → Type 0
IsMadeOfRuns n t rs (Ok c) = AreRunsOf t rs × AreFewRows rs × (c ≡ record {
  name = n;
  kind = t;
  chunks = expansion rs ∷ [];
  flag = Not;
  view_arrays = laid_runs (text_runs rs) ∷ [];
})
IsMadeOfRuns n t rs (Err e) = IsRefused (AreRunsOf t rs) (AreFewRows rs) e
