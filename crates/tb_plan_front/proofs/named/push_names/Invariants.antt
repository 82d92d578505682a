use Rattle.std.proofs.Common.{◌≡◌, ◌++◌, take}
use Rattle.tb_frame.specs.Promise.Table.{names_of, table_of}
use Rattle.tb_plan_front.proofs.named.push_names.Given as goal

abbrev pub invariant-loop-column : goal.invariant-loop-column
invariant-loop-column l = l.names.items ≡ l.initial.names.items ++ names_of (table_of (take l.column-index l.table))
