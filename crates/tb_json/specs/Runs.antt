-- Runs, as they stand in a tree.
use Rattle.std.specs.Prelude.{◌≡◌, ℕ, List, [], ◌∷◌, map, Option, Some, None, option_map, option_and_then, unwrap_or}
use Rattle.serde_json.specs.Data.{Data}
use Rattle.serde_json.specs.Find.{as_number, as_u64}
use Rattle.tb_tree.specs.View.{pair_of, view}
use Rattle.tb_tree.specs.declared.value.Value.{Value}
use Rattle.tb_value.specs.Promise.Datum.{Datum}
use Rattle.tb_value.specs.Promise.Kind.{Kind}
use Rattle.tb_chunk.specs.RunLayout.{expansion, total_of}
use Rattle.tb_json.specs.declared.read_arrays.LentLists.{LentLists}
use Rattle.tb_json.specs.declared.read_arrays.LentLists.TheVariants.{Chunks, Runs}
use Rattle.tb_json.specs.Promise.Cells.{cell_in, run_in}
use Rattle.tb_json.specs.Promise.Lists.{each, list_in}

-- the value of a run and its count, where it is an array of the two; any other value stands no time
abbrev pub run_from : Data → Option (Data × Data) → Data × ℕ
run_from d None = (d, 0)
run_from d (Some p) = (p.0, unwrap_or (option_and_then as_u64 (as_number p.1)) 0)

abbrev pub run_view : Value → Data × ℕ
run_view v = run_from (view v) (pair_of (view v))

-- the values of runs, each as often as its count says, where they are of the type
abbrev pub values_in_runs : Kind → List (Data × ℕ) → Option (List Datum)
values_in_runs t rs = option_map expansion (each (run_in t) rs)

-- the values of the chunks, or of the one chunk of the runs, where they are of the type
abbrev pub lists_in : Kind → LentLists → Option (List (List Datum))
lists_in t (Chunks cs) = each (each (cell_in t)) (map (λ v. list_in (view v)) cs.now)
lists_in t (Runs rs rows) =
    option_map (λ vs. expansion vs ∷ []) (each (run_in t) (map run_view rs.now))

-- the rows of runs are those that their counts say
abbrev pub AreCounted : LentLists → Type 0
AreCounted (Chunks cs) = Unit {0}
AreCounted (Runs rs rows) = rows ≡ total_of (map run_view rs.now)
