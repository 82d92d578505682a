use Rattle.std.proofs.Common.{◌≡◌, take}
use Rattle.tb_build.specs.Pieces.{items_of_part}
use Rattle.tb_build.proofs.building.part_items.Given as goal

abbrev pub invariant-loop-portion : goal.invariant-loop-portion
invariant-loop-portion g l = l.items.items ≡ items_of_part (take l.portion-index l.portions) l.part
