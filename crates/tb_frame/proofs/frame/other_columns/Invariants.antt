use Rattle.std.proofs.Common.{◌≡◌, take}
use Rattle.tb_frame.specs.Frame.{without_names}
use Rattle.tb_frame.proofs.frame.other_columns.Given as goal

abbrev pub invariant-loop-column : goal.invariant-loop-column
invariant-loop-column l = l.others.items ≡ without_names l.fn.names (take l.column-index l.columns)
