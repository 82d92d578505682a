use Rattle.std.proofs.Common.{◌≡◌, map, take}
use Rattle.tb_tree.specs.View.{view, whole}
use Rattle.tb_tree.proofs.value.spread.Given as goal

abbrev pub invariant-loop-number : goal.invariant-loop-number
invariant-loop-number l = map view l.values.items ≡ map whole (take l.number-index l.numbers)
