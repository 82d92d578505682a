use Rattle.std.proofs.Common.{◌≡◌, take, map}
use Rattle.tb_chunk.specs.Lent.{lent_columns}
use Rattle.tb_rowkey.specs.FieldColumns.{joined_if_cut}
use Rattle.tb_group.proofs.whole.joined_columns.Given as goal

abbrev pub invariant-loop-column : goal.invariant-loop-column
invariant-loop-column l = l.all.items ≡ map joined_if_cut (lent_columns (take l.column-index l.columns))
