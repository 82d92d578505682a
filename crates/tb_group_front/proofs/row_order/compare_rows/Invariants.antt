use Rattle.std.proofs.Common.{◌≡◌, drop}
use Rattle.tb_frame.specs.Promise.Table.{table_of}
use Rattle.tb_group_front.specs.Promise.Sorted.{row_cmp}
use Rattle.tb_group_front.proofs.row_order.compare_rows.Given as goal

-- the values that are left decide
abbrev pub invariant-loop-column : goal.invariant-loop-column
invariant-loop-column l =
    row_cmp (table_of l.columns) l.first l.second ≡ row_cmp (table_of (drop l.column-index l.columns)) l.first l.second
