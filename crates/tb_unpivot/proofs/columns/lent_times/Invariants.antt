use Rattle.std.proofs.Common.{◌≡◌, replicate}
use Rattle.tb_chunk.specs.Lent.{lent_columns}
use Rattle.tb_unpivot.proofs.columns.lent_times.Given as goal

abbrev pub invariant-loop-i : goal.invariant-loop-i
invariant-loop-i l = lent_columns l.lent.items ≡ replicate l.i l.column
