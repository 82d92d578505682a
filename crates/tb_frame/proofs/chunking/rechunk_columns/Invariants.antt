use Rattle.std.proofs.Common.{◌≡◌, take, map}
use Rattle.tb_chunk.specs.Lent.{in_one_chunk}
use Rattle.tb_frame.proofs.chunking.rechunk_columns.Given as goal

abbrev pub invariant-loop-column : goal.invariant-loop-column
invariant-loop-column l = l.whole.items ≡ map in_one_chunk (take l.column-index l.columns)
