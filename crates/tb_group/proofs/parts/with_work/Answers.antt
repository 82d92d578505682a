use Rattle.std.proofs.Common.{◌∙◌, ◌++◌, List, Option, ap, sym}
use Rattle.std.specs.List.{filter_map}
use Rattle.tb_group.specs.declared.part.PartGroups.{PartGroups}
use Rattle.tb_group.proofs.Done.{all_there, none_left, some_left}
use Rattle.tb_group.proofs.parts.with_work.Goals as goal

pub loop-part-init : goal.loop-part-init
loop-part-init c = λ t. c.in_ok-given.ensures.items t ++ filter_map (λ (p : Option PartGroups). p) (c.into_iter-part-iterator.ensures.into_iter_gives.0 t)

pub loop-part-preserved-in-Continue-branch-2 : goal.loop-part-preserved-in-Continue-branch-2
loop-part-preserved-in-Continue-branch-2 c =
    ap (λ (l : List PartGroups). l ++ filter_map (λ (p : Option PartGroups). p) c.next.new.self.rest.items) c.in_ok-push.ensures.items
    ∙ some_left c.loop-part.given.items c.loop-part.part-iterator.rest.items c.next.new.self.rest.items c.in-Some.part c.in-Some-part.groups c.in-Some.ensures.steps.0 c.in-Some-part.is
    ∙ c.loop-part.invariant

pub loop-part-preserved : goal.loop-part-preserved
loop-part-preserved c =
    none_left c.loop-part.given.items c.loop-part.part-iterator.rest.items c.next.new.self.rest.items c.in-Some.part c.in-Some.ensures.steps.0 c.in_default.is
    ∙ c.loop-part.invariant

pub returns : goal.returns
returns c = all_there c.loop-part.given.items c.loop-part.part-iterator.rest.items (sym c.loop-part.part-iterator.rest.ok.0 ∙ c.in-None.ensures.steps.0) ∙ c.loop-part.invariant
