use Rattle.std.proofs.Common.{◌≡◌, true}
use Rattle.tb_frame.specs.Promise.Table.{table_of}
use Rattle.tb_chunk.specs.Lent.{lent_columns}
use Rattle.tb_keys.proofs.KeyFields.{same_to}
use Rattle.tb_keys.proofs.validation.same_keys.Given as goal

-- the fields so far are the same
abbrev pub invariant-loop-p : goal.invariant-loop-p
invariant-loop-p l = same_to (table_of (lent_columns l.keys)) l.i l.j l.p ≡ true
