use Rattle.std.proofs.Common.{arith, ◌∙◌, ◌-◌, ◌+◌, ap, sym, take, drop, None, if◌then◌else◌}
use Rattle.tb_value.specs.See.{lent_value}
use Rattle.tb_cell.specs.Promise.Order.{last_in_order}
use Rattle.tb_cell.proofs.Follow.{followed_step}
use Rattle.tb_chunk.proofs.ordering.follow_chunk.Goals as goal

pub returns-then-not-may_follow : goal.returns-then-not-may_follow
returns-then-not-may_follow g c =
    let l = c.loop-i in
    let xs = g.C.Chunk.shown c.args.chunk.now in
    let step = followed_step c.args.descending (lent_value l.last) (lent_value c.value-value.result) xs c.args.from l.i c.args.count c.loop-i-test.true (omega (arith, c.requires)) c.value-value.ensures.value in
    let rest = last_in_order c.args.descending (lent_value c.value-value.result) (take (c.args.count - (l.i + 1)) (drop (c.args.from + (l.i + 1)) xs)) in
    sym (l.invariant ∙ (step ∙ ap (λ b. if b then rest else None) (sym c.may_follow.ensures ∙ c.if-not-may_follow.true)))

pub loop-i-preserved : goal.loop-i-preserved
loop-i-preserved g c =
    let l = c.loop-i in
    let xs = g.C.Chunk.shown c.args.chunk.now in
    let step = followed_step c.args.descending (lent_value l.last) (lent_value c.value-value.result) xs c.args.from l.i c.args.count c.loop-i-test.true (omega (arith, c.requires)) c.value-value.ensures.value in
    let rest = last_in_order c.args.descending (lent_value c.value-value.result) (take (c.args.count - (l.i + 1)) (drop (c.args.from + (l.i + 1)) xs)) in
    l.invariant ∙ (step ∙ ap (λ b. if b then rest else None) (sym c.may_follow.ensures ∙ c.if-not-may_follow.false))
