use Rattle.std.proofs.Common.{◌≡◌, map, take}
use Rattle.tb_group.specs.Parts.{shown_part}
use Rattle.tb_group.specs.Whole.{all_firsts}
use Rattle.tb_group.proofs.columns.all_firsts.Given as goal

abbrev pub invariant-loop-part : goal.invariant-loop-part
invariant-loop-part l = l.firsts.items ≡ all_firsts (map shown_part (take l.part-index l.parts))
