use Rattle.std.proofs.Common.{◌≡◌, take, map}
use Rattle.tb_frame.specs.Frame.{sliced_rows}
use Rattle.tb_frame.proofs.frame.slice_columns.Given as goal

abbrev pub invariant-loop-column : goal.invariant-loop-column
invariant-loop-column l = l.parts.items ≡ map (sliced_rows l.fn.offset l.fn.len) (take l.column-index l.columns)
