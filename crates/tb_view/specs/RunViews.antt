-- Runs: values, each with its count, which says how often it stands. The views of a chunk of them.
use Rattle.std.specs.Prelude.{ℕ, List, [], Option, Some, None, zero, suc, map}
use Rattle.std.specs.List.{fold}
use Rattle.tb_value.specs.Promise.Datum.{Datum}
use Rattle.tb_value.specs.See.{datum}
use Rattle.tb_value.specs.Promise.Texts.{text_of}
use Rattle.tb_value.specs.declared.any_value.AnyValue.{AnyValue}
use Rattle.tb_view.specs.Promise.Layout.{buffers_of}
use Rattle.tb_view.specs.Layout.{Building, building_of, with_nulls, with_rows}
use Rattle.tb_view.specs.Promise.ViewArrays.{ViewArray}

-- the runs of values of a column
abbrev pub data_runs : List (AnyValue × ℕ) → List (Datum × ℕ)
data_runs rs = map (λ r. (datum r.0, r.1)) rs

-- their texts and bytes; none of other values
abbrev pub text_runs : List (Datum × ℕ) → List (Option (List ℕ) × ℕ)
text_runs rs = map (λ r. (text_of r.0, r.1)) rs

-- a run more: its text is put once. A run of no row puts nothing
abbrev pub with_run : Building → Option (List ℕ) × ℕ → Building
with_run b (o, zero) = b
with_run b (None, suc n) = with_nulls b (suc n)
with_run b (Some t, suc n) = with_rows b t (suc n)

-- what a builder holds after these runs
abbrev pub run_building : List (Option (List ℕ) × ℕ) → Building
run_building rs = fold with_run (building_of []) rs

-- the views and the buffers of a chunk of these runs
abbrev pub laid_runs : List (Option (List ℕ) × ℕ) → ViewArray
laid_runs rs =
    record { views = (run_building rs).views; buffers = buffers_of (run_building rs).laid }
