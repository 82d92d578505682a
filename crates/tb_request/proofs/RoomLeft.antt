-- The rows of runs, column by column.
use Rattle.std.proofs.Common.{◌≡◌, ◌∙◌, ◌+◌, ◌<◌, ℕ, List, ◌∷◌, map, length, get_or, drop, Vec, Global, sym}
use Rattle.std.specs.Prelude.{sum_by}
use Rattle.std.proofs.lemmas.List.Sums.{sum_by-cons, sum_by-drop_more}
use Rattle.serde_json.specs.Data.{Data}
use Rattle.tb_value.proofs.Counts.{sum_by-map}
use Rattle.tb_tree.specs.declared.value.Value.{Value}
use Rattle.tb_chunk.specs.RunLayout.{total_of}
use Rattle.tb_request.specs.declared.shape.WrittenColumn.{WrittenColumn}
use Rattle.tb_request.specs.Promise.Columns.{rows_in, rows_in_tables, rows_of_runs}
use Rattle.tb_request.specs.Promise.Written.{Written}
use Rattle.tb_request.specs.Lent.{run_view, values_view, written_view, written_views}

abbrev pub column_rows : WrittenColumn → ℕ
column_rows c = rows_of_runs (values_view c.values)

by_columns : (cs : List WrittenColumn) → rows_in (map written_view cs) ≡ sum_by column_rows cs
by_columns cs = sum_by-map (λ (w : Written). rows_of_runs w.values) written_view cs

-- the rows that are left are those of the next column and those after it
pub rows_drop : (cs : List WrittenColumn) (i : ℕ) (c : WrittenColumn) → i < length cs → c ≡ get_or cs i c → rows_in (map written_view (drop i cs)) ≡ column_rows c + rows_in (map written_view (drop (i + 1) cs))
rows_drop cs i c low is =
    by_columns (drop i cs)
    ∙ sum_by-drop_more column_rows cs i c low
    ∙ (λ j. column_rows (sym is j) + sym (by_columns (drop (i + 1) cs)) j)

by_runs : (vs : List Value) → total_of (map run_view vs) ≡ sum_by (λ v. (run_view v).1) vs
by_runs vs = sum_by-map (λ (r : Data × ℕ). r.1) run_view vs

-- the rows that are left are those of the next run and those after it
pub total_drop : (vs : List Value) (i : ℕ) (v : Value) → i < length vs → v ≡ get_or vs i v → total_of (map run_view (drop i vs)) ≡ (run_view v).1 + total_of (map run_view (drop (i + 1) vs))
total_drop vs i v low is =
    by_runs (drop i vs)
    ∙ sum_by-drop_more (λ w. (run_view w).1) vs i v low
    ∙ (λ j. (run_view (sym is j)).1 + sym (by_runs (drop (i + 1) vs)) j)

abbrev pub table_rows : Vec WrittenColumn Global → ℕ
table_rows t = rows_in (written_views t)

by_tables : (ts : List (Vec WrittenColumn Global)) → rows_in_tables (map written_views ts) ≡ sum_by table_rows ts
by_tables ts = sum_by-map rows_in written_views ts

-- the rows that are left are those of the next table and those after it
pub table_rows_drop : (ts : List (Vec WrittenColumn Global)) (i : ℕ) (t : Vec WrittenColumn Global) → i < length ts → t ≡ get_or ts i t → rows_in_tables (map written_views (drop i ts)) ≡ table_rows t + rows_in_tables (map written_views (drop (i + 1) ts))
table_rows_drop ts i t low is =
    by_tables (drop i ts)
    ∙ sum_by-drop_more table_rows ts i t low
    ∙ (λ j. table_rows (sym is j) + sym (by_tables (drop (i + 1) ts)) j)

-- the rows of one more table
pub tables_more : (t : List Written) (ts : List (List Written)) → rows_in_tables (t ∷ ts) ≡ rows_in t + rows_in_tables ts
tables_more t ts = sum_by-cons rows_in t ts

pub rows_more : (w : Written) (ws : List Written) → rows_in (w ∷ ws) ≡ rows_of_runs w.values + rows_in ws
rows_more w ws = sum_by-cons (λ (v : Written). rows_of_runs v.values) w ws
