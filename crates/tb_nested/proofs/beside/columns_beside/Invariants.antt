use Rattle.std.proofs.Common.{◌≡◌, take}
use Rattle.tb_frame.specs.Promise.Table.{table_of, names_of}
use Rattle.tb_frame.specs.RightColumns.{gone_right, right_columns}
use Rattle.tb_frame.specs.Sides.{of_kind}
use Rattle.tb_nested.proofs.beside.columns_beside.Given as goal

abbrev pub invariant-loop-column : goal.invariant-loop-column
invariant-loop-column l = l.columns.items ≡ right_columns (names_of (table_of l.left)) l.suffix (gone_right (of_kind l.fn.how l.args) l.right_on) l.rows (take l.column-index l.side)
