use Rattle.std.proofs.Common.{◌≡◌, take}
use Rattle.tb_node.specs.Seen.{given_tables}
use Rattle.tb_plan_front.specs.Promise.Plans.{names_in}
use Rattle.tb_plan_front.proofs.named.names_in.Given as goal

abbrev pub invariant-loop-table : goal.invariant-loop-table
invariant-loop-table l = l.names.items ≡ names_in (given_tables (take l.table-index l.tables))
