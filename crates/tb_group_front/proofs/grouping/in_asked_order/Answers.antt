use Rattle.std.proofs.Common.{◌≡◌, arith, length}
use Rattle.tb_frame.specs.Promise.Table.{table_of}
use Rattle.tb_group_front.proofs.Asked.{left_as_they_come, put_in_order}
use Rattle.tb_group_front.proofs.grouping.in_asked_order.Goals as goal

pub returns-then-call : goal.returns-then-call
returns-then-call c =
    let many : c.len.result ≡ length c.args.call.now.by.items = omega arith in
    put_in_order c.args.call.now.sorts (length c.args.call.now.by.items) c.len.result (table_of c.args.groups) c.sorted.result c.if-call.true many c.sorted.ensures

pub returns-else-call : goal.returns-else-call
returns-else-call c = left_as_they_come c.args.call.now.sorts (length c.args.call.now.by.items) (table_of c.args.groups) c.if-call.false
