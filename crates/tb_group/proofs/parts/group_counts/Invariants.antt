use Rattle.std.proofs.Common.{◌≡◌, map, take}
use Rattle.tb_group.specs.Parts.{group_count}
use Rattle.tb_group.proofs.parts.group_counts.Given as goal

abbrev pub invariant-loop-part : goal.invariant-loop-part
invariant-loop-part l = l.counts.items ≡ map group_count (take l.part-index l.parts)
