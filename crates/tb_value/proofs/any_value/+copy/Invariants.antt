use Rattle.std.proofs.Common.{◌≡◌, take, map}
use Rattle.tb_value.specs.See.{datum}
use Rattle.tb_value.proofs.any_value.+copy.Given as goal

abbrev pub invariant-copy_values-loop-item : goal.invariant-copy_values-loop-item
invariant-copy_values-loop-item l = map datum l.items.items ≡ map datum (take l.item-index l.item-items)
