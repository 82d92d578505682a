use Rattle.std.proofs.Common.{◌≡◌, take, map}
use Rattle.tb_frame.specs.Frame.{opt_taken_rows}
use Rattle.tb_frame.proofs.frame.take_opt_columns.Given as goal

abbrev pub invariant-loop-column : goal.invariant-loop-column
invariant-loop-column l = l.taken.items ≡ map (opt_taken_rows l.rows) (take l.column-index l.columns)
