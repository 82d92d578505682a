use Rattle.tb_plan.proofs.NodeLemmas.{missing_at}
use Rattle.tb_plan.proofs.made.filter_column.Goals as goal

pub returns-in-Err-clause-settles : goal.returns-in-Err-clause-settles
returns-in-Err-clause-settles c =
    missing_at c.args.node c.args.column.now c.as_str.result.now c.args.table.now c.in-Err.error c.fault_at.result c.as_str.ensures c.fault_at.ensures c.in-Err.ensures.settles
