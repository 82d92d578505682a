use Rattle.std.proofs.Common.{◌≡◌, take}
use Rattle.tb_chunk.specs.Lent.{lent_columns}
use Rattle.tb_filter.proofs.tables.lend.Given as goal

abbrev pub invariant-loop-column : goal.invariant-loop-column
invariant-loop-column l = lent_columns l.lent.items ≡ take l.column-index l.columns
