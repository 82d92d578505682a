use Rattle.std.proofs.Common.{◌≡◌, take, map, Bor}
use Rattle.tb_value.specs.Promise.Names.{Name}
use Rattle.tb_frame.proofs.joined_names.copied_names.Given as goal

abbrev pub invariant-loop-name : goal.invariant-loop-name
invariant-loop-name l = l.copies.items ≡ map (λ (n : Bor Name). n.now) (take l.name-index l.names)
