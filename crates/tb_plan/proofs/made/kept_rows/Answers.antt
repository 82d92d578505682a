use Rattle.std.proofs.Common.{subst, sym, Result}
use Rattle.tb_frame.specs.Promise.Table.{Table, table_of}
use Rattle.tb_filter.specs.Seen.{check_of}
use Rattle.tb_plan.specs.declared.faults.PlanFault.{PlanFault}
use Rattle.tb_plan.specs.Gives.{Gives}
use Rattle.tb_plan.specs.Seen.{table_kept}
use Rattle.tb_plan.proofs.NodeLemmas.{column_level, column_missing, column_tested}
use Rattle.tb_plan.proofs.made.kept_rows.Goals as goal

pub tested_rows-requires-clause-level : goal.tested_rows-requires-clause-level
tested_rows-requires-clause-level g c κs within =
    column_level c.args.node c.args.column.now (check_of c.args.test.now) c.args.table.now c.in-Ok.column.now c.in-Ok.ensures.found c.get_columns-columns.ensures.table

pub returns-in-Ok : goal.returns-in-Ok
returns-in-Ok g c =
    subst (λ (due : Result Table PlanFault). Gives (table_kept (table_of c.args.table.now)) c.tested_rows.result due)
    (sym (column_tested c.args.node c.args.column.now (check_of c.args.test.now) c.args.table.now c.in-Ok.column.now c.in-Ok.ensures.found)) c.tested_rows.ensures

pub returns-in-Err : goal.returns-in-Err
returns-in-Err g c = column_missing c.args.node c.args.column.now (check_of c.args.test.now) c.args.table.now c.in-Err.fault c.in-Err.ensures.settles
