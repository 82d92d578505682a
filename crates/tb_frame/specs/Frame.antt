-- Which lists of columns make no table, and what becomes of the columns of a table.
use Rattle.std.specs.Prelude.{◌≡◌, ℕ, not, List, [], ◌∷◌, length, map, filter, Option}
use Rattle.std.specs.List.{AllPairs}
use Rattle.tb_value.specs.Promise.Datum.{Datum}
use Rattle.tb_value.specs.Promise.Names.{Name}
use Rattle.tb_value.specs.Promise.Refusals.{first_cause, when}
use Rattle.tb_value.specs.declared.error.PolarsError.{PolarsError}
use Rattle.tb_value.specs.declared.error.PolarsError.TheVariants.{ShapeMismatch}
pub use Rattle.tb_chunk.specs.Changed.{coalesced_column, opt_taken_rows, sliced_rows, taken_rows}
use Rattle.tb_chunk.specs.Promise.Col.{Col}
use Rattle.tb_frame.specs.Promise.Table.{Table, names_of}
use Rattle.tb_frame.specs.Promise.Naming.{is_among}
use Rattle.tb_frame.specs.Promise.Refusal.{repeated_among, unknown_key}
use Rattle.tb_frame.specs.Promise.Frame.{are_level}

-- two lengths differ, or a name is repeated
abbrev pub frame_refusal : Table → Option PolarsError
frame_refusal t =
    first_cause (when (not (are_level t)) ShapeMismatch ∷ repeated_among (names_of t) ∷ [])

-- a name is of no column, or is repeated
abbrev pub select_refusal : List Name → Table → Option PolarsError
select_refusal names t = first_cause (unknown_key t names ∷ repeated_among names ∷ [])

-- the columns whose names are not among these
abbrev pub without_names : List Name → List Col → List Col
without_names names cs = filter (λ (c : Col). not (is_among names c.name)) cs

-- the number of values of each chunk, and of those of a column
abbrev pub lengths : List (List Datum) → List ℕ
lengths chunks = map (λ (vs : List Datum). length vs) chunks

abbrev pub lens : Col → List ℕ
lens c = lengths c.chunks

-- any two columns are cut into chunks of the same lengths
abbrev pub AreCutAlike : List Col → Type 0
AreCutAlike cs = AllPairs (λ (a b : Col). lens a ≡ lens b) cs
