use Rattle.std.proofs.Common.{map}
use Rattle.tb_tree.specs.View.{view}
use Rattle.tb_plan_request.specs.Promise.Written.{table_in}
use Rattle.tb_plan_request.specs.Lent.{written_table}
use Rattle.tb_json.proofs.LentValues.{Taking}
use Rattle.tb_plan_request.proofs.members.tables_in.Given as goal

abbrev pub invariant-loop-item : goal.invariant-loop-item
invariant-loop-item l = Taking view (table_in l.format) l.initial.item-iterator.rest.items (map written_table l.tables.items) l.item-iterator.rest.items
