use Rattle.std.proofs.Common.{◌∙◌, ◌<◌, ℕ, List, arith, ap, get_or, length, map, subst}
use Rattle.tb_chunk.specs.Promise.Col.{values}
use Rattle.tb_dummies.specs.Lent.{mark_in}
use Rattle.tb_dummies.proofs.Marks.{first_below, group_marks, numbers_few}
use Rattle.tb_dummies.proofs.columns.dummies_by_row.Goals as goal

pub dummy-requires-clause-row : goal.dummy-requires-clause-row
dummy-requires-clause-row c =
    let p = c.loop-group.group in
    let firsts = c.firsts-firsts.ensures in
    first_below (values c.args.column.now) c.in_ok-groups.groups p _ c.in_ok-groups.ensures (subst (λ (l : List ℕ). p < length l) firsts c.loop-group-test.true) (ap (λ (l : List ℕ). get_or l p 0) firsts)

pub dummy-requires-clause-few : goal.dummy-requires-clause-few
dummy-requires-clause-few c =
    omega (arith, ap length c.numbers-numbers.ensures, numbers_few (values c.args.column.now) c.in_ok-groups.groups c.in_ok-groups.ensures, c.len-len.ensures.column.short)

pub dummy-requires-clause-marked : goal.dummy-requires-clause-marked
dummy-requires-clause-marked c =
    let p = c.loop-group.group in
    let firsts = c.firsts-firsts.ensures in
    ap (map (mark_in p)) c.numbers-numbers.ensures
    ∙ group_marks (values c.args.column.now) c.in_ok-groups.groups p _ c.in_ok-groups.ensures (subst (λ (l : List ℕ). p < length l) firsts c.loop-group-test.true) (ap (λ (l : List ℕ). get_or l p 0) firsts)
