use Rattle.std.proofs.Common.{◌≡◌, take, map}
use Rattle.tb_frame.specs.Promise.Naming.{is_among}
use Rattle.tb_front.proofs.nulls.named_flags.Given as goal

abbrev pub invariant-loop-key : goal.invariant-loop-key
invariant-loop-key l = l.flags.items ≡ map (is_among l.names) (take l.key-index l.keys)
