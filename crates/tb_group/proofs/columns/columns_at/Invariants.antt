use Rattle.std.proofs.Common.{◌≡◌, map, take}
use Rattle.tb_chunk.specs.Lent.{lent_columns}
use Rattle.tb_frame.specs.Frame.{taken_rows}
use Rattle.tb_group.proofs.columns.columns_at.Given as goal

abbrev pub invariant-loop-column : goal.invariant-loop-column
invariant-loop-column l = l.taken.items ≡ map (taken_rows l.rows) (lent_columns (take l.column-index l.columns))
