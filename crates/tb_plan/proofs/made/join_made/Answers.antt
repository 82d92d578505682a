use Rattle.tb_frame.specs.Promise.Table.{table_of}
use Rattle.tb_plan.specs.Seen.{columns_made}
use Rattle.tb_plan.proofs.NodeLemmas.{join_given, join_refused}
use Rattle.tb_plan.proofs.made.join_made.Goals as goal

pub returns-in-Ok : goal.returns-in-Ok
returns-in-Ok g c =
    join_given c.args.node c.table-left.result.now (columns_made c.args.left) c.table-right.result.now (columns_made c.args.right) c.args.left_on.now c.args.right_on.now c.in_ok-args.args c.args.args.now
    c.table-left.ensures c.table-right.ensures c.in_ok-args.ensures (table_of c.in-Ok.table) c.get_columns-left.ensures.table c.get_columns-right.ensures.table c.in-Ok.ensures.settles c.in-Ok.ensures.answer

pub returns : goal.returns
returns g c =
    join_refused c.args.node c.table-left.result.now (columns_made c.args.left) c.table-right.result.now (columns_made c.args.right) c.args.left_on.now c.args.right_on.now c.in_ok-args.args c.args.args.now
    c.table-left.ensures c.table-right.ensures c.in_ok-args.ensures c.in-Err.error c.fault_at.result c.fault_at.ensures c.in-Err.ensures.settles
