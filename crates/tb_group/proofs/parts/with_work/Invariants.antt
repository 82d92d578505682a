use Rattle.std.proofs.Common.{◌≡◌, ◌++◌, Option}
use Rattle.std.specs.List.{filter_map}
use Rattle.tb_group.specs.declared.part.PartGroups.{PartGroups}
use Rattle.tb_group.proofs.parts.with_work.Given as goal

-- those that were put in, and those that are left
abbrev pub invariant-loop-part : goal.invariant-loop-part
invariant-loop-part l = l.given.items ++ filter_map (λ (p : Option PartGroups). p) l.part-iterator.rest.items ≡ filter_map (λ (p : Option PartGroups). p) l.fn.parts.items
