use Rattle.std.proofs.Common.{◌≡◌, take, map}
use Rattle.tb_frame.specs.Frame.{taken_rows}
use Rattle.tb_frame.proofs.frame.take_columns.Given as goal

abbrev pub invariant-loop-column : goal.invariant-loop-column
invariant-loop-column l = l.taken.items ≡ map (taken_rows l.rows) (take l.column-index l.columns)
