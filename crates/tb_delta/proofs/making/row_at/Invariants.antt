use Rattle.std.proofs.Common.{◌≡◌, take}
use Rattle.tb_value.specs.See.{data_of}
use Rattle.tb_frame.specs.Promise.Table.{row_at, table_of}
use Rattle.tb_delta.proofs.making.row_at.Given as goal

abbrev pub invariant-loop-column : goal.invariant-loop-column
invariant-loop-column l = data_of l.fields.items ≡ row_at (table_of (take l.column-index l.columns)) l.row
