use Rattle.std.proofs.Common.{◌≡◌, take}
use Rattle.tb_chunk.specs.Lent.{lent_columns}
use Rattle.tb_frame.specs.Promise.Table.{table_of}
use Rattle.tb_group.proofs.whole.whole_columns.Given as goal

abbrev pub invariant-loop-place : goal.invariant-loop-place
invariant-loop-place l = table_of (lent_columns l.whole.items) ≡ table_of (lent_columns (take l.place l.columns))
