use Rattle.std.proofs.Common.{◌≡◌, take}
use Rattle.tb_chunk.specs.Lent.{lent_columns}
use Rattle.tb_dispatch.proofs.given.lent_keys.Given as goal

abbrev pub invariant-loop-key : goal.invariant-loop-key
invariant-loop-key l = lent_columns l.lent.items ≡ take l.key-index l.keys
