use Rattle.std.proofs.Common.{◌≡◌, ◌<◌, ◌∙◌, refl, sym, arith}
use Rattle.tb_delta.specs.Late.{count_gone}
use Rattle.tb_delta.proofs.LateGroups.{all_settled}
use Rattle.tb_delta.proofs.late.LateGroups.settled.Goals as goal

pub loop-init : goal.loop-init
loop-init c = (c.requires, omega arith, λ s k. refl)

pub settle_first-requires : goal.settle_first-requires
settle_first-requires c = c.loop.invariant.0

pub loop-preserved : goal.loop-preserved
loop-preserved c =
    let under : c.loop.counter < c.len-keys.result = omega arith in (
      c.settle_first.ensures.keeps.ascend,
      omega (arith, under, c.len-keys.ensures.len, c.loop.invariant.1, c.settle_first.ensures.fewer),
      λ s k. c.settle_first.ensures.keeps.ids s k ∙ c.loop.invariant.2 s k,
    )

pub returns-clause-ascend : goal.returns-clause-ascend
returns-clause-ascend c = c.loop.invariant.0

pub returns-clause-ids : goal.returns-clause-ids
returns-clause-ids c = λ s k.
    let all : c.loop.counter ≡ c.len-keys.result = omega arith in
    let none : count_gone c.loop.late ≡ 0 = omega (arith, all, c.len-keys.ensures.len, c.loop.invariant.1) in
    sym (all_settled c.loop.late none s k) ∙ c.loop.invariant.2 s k
