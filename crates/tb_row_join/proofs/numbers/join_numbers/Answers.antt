use Rattle.std.proofs.Common.{arith, List, subst}
use Rattle.std.specs.Prelude.{IfOk}
use Rattle.tb_value.specs.declared.index.JoinPair.{JoinPair}
use Rattle.tb_row_join.specs.Promise.Rooms.{marked, ArePairsHandedOver}
use Rattle.tb_row_join.proofs.Marked.{listed-values, marked-length}
use Rattle.tb_row_join.proofs.numbers.join_numbers.Goals as goal

pub join_rows-requires-clause-few_left : goal.join_rows-requires-clause-few_left
join_rows-requires-clause-few_left c =
    let k = c.args.left.now in
    omega (arith, marked-length k.numbers.now k.marks.now k.fit, c.requires.few_left)

pub join_rows-requires-clause-few_right : goal.join_rows-requires-clause-few_right
join_rows-requires-clause-few_right c =
    let k = c.args.right.now in
    omega (arith, marked-length k.numbers.now k.marks.now k.fit, c.requires.few_right)

pub returns-clause-joined : goal.returns-clause-joined
returns-clause-joined c =
    let l = c.args.left.now in
    let r = c.args.right.now in
    subst (λ (list : List JoinPair). IfOk c.join_rows.result (ArePairsHandedOver c.args.how list c.args.left_room.now c.args.right_room.now c.join_rows.new.left_room c.join_rows.new.right_room))
    (listed-values c.args.join_nulls c.args.how (marked l.numbers.now l.marks.now) (marked r.numbers.now r.marks.now)) c.join_rows.ensures.joined
