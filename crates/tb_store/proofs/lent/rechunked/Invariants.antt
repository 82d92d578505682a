use Rattle.std.proofs.Common.{◌≡◌, take, map}
use Rattle.tb_chunk.specs.Lent.{in_one_chunk, lent_columns}
use Rattle.tb_store.proofs.lent.rechunked.Given as goal

abbrev pub invariant-loop-column : goal.invariant-loop-column
invariant-loop-column l = l.whole.items ≡ map in_one_chunk (lent_columns (take l.column-index l.columns))
