use Rattle.std.proofs.Common.{◌≡◌, None, take}
use Rattle.tb_frame.specs.Promise.Table.{table_of}
use Rattle.tb_front.specs.Promise.Asked.{marked_names}
use Rattle.tb_front.proofs.marking.marked_names.Given as goal

abbrev pub invariant-loop-column : goal.invariant-loop-column
invariant-loop-column l = l.names.items ≡ marked_names None (table_of (take l.column-index l.table))
