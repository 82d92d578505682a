use Rattle.std.proofs.Common.{◌≡◌, ℕ, subst, length, arith}
use Rattle.tb_group.specs.Once.{AreOnceTo}
use Rattle.tb_group.proofs.Seated.{none_yet, once_more}
use Rattle.tb_group.proofs.once.made_once.Goals as goal

pub loop-one-init : goal.loop-one-init
loop-one-init c = none_yet c.args.asked.now _ _ c.new-made.ensures.items c.in_ok-seats.ensures.items

pub loop-one-preserved : goal.loop-one-preserved
loop-one-preserved c =
    once_more c.args.asked.now c.loop-one.one-index c.one-item.result c.loop-one-test.true c.one-item.is c.loop-one.made.items _ c.loop-one.seats.items _ _ c.loop-one.invariant c.in_ok-seat.ensures c.in_ok-push.ensures.items

pub returns : goal.returns
returns c =
    let asked = c.args.asked.now in
    let done : c.loop-one.one-index ≡ length asked = omega arith in
    subst (λ (n : ℕ). AreOnceTo asked n c.loop-one.made.items c.loop-one.seats.items) done c.loop-one.invariant
