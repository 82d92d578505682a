use Rattle.std.proofs.Common.{◌≡◌, take, map}
use Rattle.tb_frame.specs.Promise.Table.{table_of, names_of}
use Rattle.tb_frame.proofs.frame.column_names.Given as goal

abbrev pub invariant-loop-column : goal.invariant-loop-column
invariant-loop-column l = map (λ n. n.now) l.names.items ≡ names_of (table_of (take l.column-index l.columns))
