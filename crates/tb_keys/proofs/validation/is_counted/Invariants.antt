use Rattle.std.proofs.Common.{◌≡◌, true}
use Rattle.tb_frame.specs.Promise.Join.{flag_at}
use Rattle.tb_frame.specs.Promise.Table.{table_of}
use Rattle.tb_chunk.specs.Lent.{lent_columns}
use Rattle.tb_keys.proofs.KeyFields.{counted_to}
use Rattle.tb_keys.proofs.validation.is_counted.Given as goal

-- the fields so far count
abbrev pub invariant-loop-p : goal.invariant-loop-p
invariant-loop-p l = counted_to (flag_at l.nulls) (table_of (lent_columns l.keys)) l.i l.p ≡ true
