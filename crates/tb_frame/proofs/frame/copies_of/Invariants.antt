use Rattle.std.proofs.Common.{◌≡◌, take}
use Rattle.tb_chunk.specs.Lent.{lent_columns}
use Rattle.tb_frame.proofs.frame.copies_of.Given as goal

abbrev pub invariant-loop-column : goal.invariant-loop-column
invariant-loop-column l = l.copies.items ≡ lent_columns (take l.column-index l.columns)
