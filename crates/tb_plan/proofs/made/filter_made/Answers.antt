use Rattle.std.proofs.Common.{Some, None}
use Rattle.tb_filter.specs.Seen.{check_of}
use Rattle.tb_plan.specs.Seen.{columns_made}
use Rattle.tb_plan.proofs.NodeLemmas.{filter_given, filter_refused}
use Rattle.tb_plan.proofs.made.filter_made.Goals as goal

pub returns-in-Ok-Some : goal.returns-in-Ok-Some
returns-in-Ok-Some g c =
    filter_given c.args.node c.args.column.now (check_of c.args.test.now) c.table.result.now (columns_made c.args.made) c.table.ensures
    c.in-Ok-Some.field-0 (Some c.in-Ok-Some.table) c.in-Ok-Some.field-0-is c.in-Ok-Some.ensures

pub returns-in-Ok-None : goal.returns-in-Ok-None
returns-in-Ok-None g c =
    filter_given c.args.node c.args.column.now (check_of c.args.test.now) c.table.result.now (columns_made c.args.made) c.table.ensures
    c.in-Ok-None.field-0 None c.in-Ok-None.field-0-is c.in-Ok-None.ensures

pub returns : goal.returns
returns g c =
    filter_refused c.args.node c.args.column.now (check_of c.args.test.now) c.table.result.now (columns_made c.args.made) c.table.ensures c.in-Err.fault c.in-Err.ensures
