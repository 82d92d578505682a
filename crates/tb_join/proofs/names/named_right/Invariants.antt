use Rattle.std.proofs.Common.{◌≡◌, map}
use Rattle.tb_frame.specs.Promise.Table.{table_of, names_of}
use Rattle.tb_join.specs.AnswerColumns.{column_called}
use Rattle.tb_join.proofs.names.named_right.Given as goal

abbrev pub invariant-loop-column : goal.invariant-loop-column
invariant-loop-column l = l.named.items ≡ map (column_called (names_of (table_of l.left)) l.suffix) l.yielded
