-- Rows of a table in the order of their values in some columns.
use Rattle.std.specs.Prelude.{ℕ, List, map, take}
use Rattle.std.specs.Cmp.Lexicographic.{slice_cmp}
use Rattle.std.specs.declared.cmp.Ordering.{Ordering}
use Rattle.tb_value.specs.Promise.Pairs.{row_numbers}
use Rattle.tb_rows.specs.Order.{value_cmp}
use Rattle.tb_rows.specs.Promise.InOrder.{in_order}
use Rattle.tb_rows.specs.Promise.Rows.{row_value}
use Rattle.tb_frame.specs.Promise.Table.{Table, TableColumn, height, row_at}

-- how two rows compare: by the first of these columns in which they differ, Null before each other value
abbrev pub row_cmp : Table → ℕ → ℕ → Ordering
row_cmp cs i j = slice_cmp value_cmp (row_at cs i) (row_at cs j)

-- so many rows in the order of these columns; those that don't differ in them stay as they stood
abbrev pub rows_by : Table → ℕ → List ℕ
rows_by cs n = in_order (row_cmp cs) (row_numbers n)

-- a table of these rows of another
abbrev pub of_rows : List ℕ → Table → Table
of_rows rows t = map (λ (c : TableColumn). record c { values = map (row_value c.values) rows }) t

-- a table with its rows in the order of so many of its first columns
abbrev pub sorted_table : ℕ → Table → Table
sorted_table n t = of_rows (rows_by (take n t) (height t)) t
