-- What a plan means, as a relation between a tree and a table.
use Rattle.std.specs.Prelude.{◌≡◌, true, Some, None}
use Rattle.tb_frame.specs.Promise.Join.{IsAnswer, by_names, column_named}
use Rattle.tb_frame.specs.Promise.Refusal.{join_refusal}
use Rattle.tb_frame.specs.Promise.Table.{IsTable, Table, TableColumn}
use Rattle.tb_value.specs.Promise.Names.{Name}
use Rattle.tb_filter.specs.Promise.Filtered.{may_test, rows_kept, with_rows}
use Rattle.tb_node.specs.Promise.Settled.{settled}
use Rattle.tb_node.specs.Promise.Tables.{Tables}
use Rattle.tb_node.specs.Promise.Trees.{Tree, table, join}
use Rattle.tb_node.specs.Promise.Trees as tree

-- a table of that name; the rows that pass a test which the type of the column may be put to; or an answer to a join that isn't refused
abbrev pub Means : Tables → Tree → Table → Type 0
Means ts (table n) t = ts n ≡ Some t
Means ts (tree.filter i n k) t = (s : Table)
    × (c : TableColumn)
    × Means ts i s
    × (column_named s n ≡ Some c)
    × (may_test k c.kind ≡ true)
    × (t ≡ with_rows (rows_kept k c) s)
Means ts (join l r lo ro a) t =
    (x : Table) × (y : Table) × Means ts l x × Means ts r y
    × (join_refusal (by_names x y lo ro (settled a)) ≡ None)
    × IsAnswer (by_names x y lo ro (settled a)) t

-- what names mean are tables
abbrev pub AreTables : Tables → Type 0
AreTables ts = (n : Name) (t : Table) → ts n ≡ Some t → IsTable t
