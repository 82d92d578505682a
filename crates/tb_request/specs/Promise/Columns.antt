-- The values of a written column.
use Rattle.std.specs.Prelude.{ℕ, List, [], ◌∷◌, length, nat_le, sum_by, Bool, Option, Some, option_map}
use Rattle.tb_chunk.specs.Promise.Col.{Col, concatenation}
use Rattle.tb_chunk.specs.Promise.Made.{at_least_one, fresh_column}
use Rattle.tb_chunk.specs.RunLayout.{expansion, total_of}
use Rattle.tb_value.specs.Promise.Datum.{Datum}
use Rattle.tb_value.specs.Promise.Kind.{Kind}
use Rattle.tb_value.specs.declared.limits.TheConstants.{MAX_ROWS}
use Rattle.tb_json.specs.Promise.Cells.{cell_in}
-- the value of a run, with its count
pub use Rattle.tb_json.specs.Promise.Cells.{run_in}
use Rattle.tb_json.specs.Promise.Lists.{◌>>=◌, check, each}
use Rattle.tb_request.specs.declared.runs.TheConstants.{MAX_RUN_VALUES}
use Rattle.tb_request.specs.Promise.Written.{Written, WrittenValues, in_chunks, in_runs}

-- the values of the chunks, where there are few enough of them, or of the one chunk of the runs
abbrev pub chunks_in : Kind → WrittenValues → Option (List (List Datum))
chunks_in t (in_chunks cs) = do
  chunks ← each (each (cell_in t)) cs
  short ← check (nat_le (length (concatenation chunks)) MAX_ROWS)
  Some (at_least_one chunks)
chunks_in t (in_runs rs) = option_map (λ vs. expansion vs ∷ []) (each (run_in t) rs)

-- the column with the flag that is claimed, where its values are of its type
unfoldable pub values_of : Written → Option Col
values_of w =
    option_map (λ chunks. fresh_column w.name w.kind chunks w.flag) (chunks_in w.kind w.values)

abbrev pub columns_from : List Written → Option (List Col)
columns_from ws = each values_of ws

-- how many rows the runs of a column give
abbrev pub rows_of_runs : WrittenValues → ℕ
rows_of_runs (in_chunks cs) = 0
rows_of_runs (in_runs rs) = total_of rs

-- how many rows all runs of these columns give
abbrev pub rows_in : List Written → ℕ
rows_in ws = sum_by (λ (w : Written). rows_of_runs w.values) ws

-- they are no more than a request may have
abbrev pub rows_fit : List Written → Bool
rows_fit ws = nat_le (rows_in ws) MAX_RUN_VALUES

-- how many rows all runs of these tables give, which are no more than a request may have
abbrev pub rows_in_tables : List (List Written) → ℕ
rows_in_tables tables = sum_by rows_in tables

abbrev pub tables_fit : List (List Written) → Bool
tables_fit tables = nat_le (rows_in_tables tables) MAX_RUN_VALUES
