use Rattle.std.proofs.Common.{◌≡◌, ◌++◌, map, take, drop}
use Rattle.tb_value.specs.Pairs.{turn}
use Rattle.tb_sorted.proofs.requested.turned.Given as goal

abbrev pub invariant-loop-pair : goal.invariant-loop-pair
invariant-loop-pair l = l.pair-items ≡ map turn (take l.pair-index l.fn.pairs.items) ++ drop l.pair-index l.fn.pairs.items
