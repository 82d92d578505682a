use Rattle.std.proofs.Common.{◌≡◌, map, take}
use Rattle.tb_group_front.proofs.keyed.numbers_of.Given as goal

abbrev pub invariant-loop-keyed : goal.invariant-loop-keyed
invariant-loop-keyed l = l.numbers.items ≡ map (λ k. k.row) (take l.keyed-index l.rows)
