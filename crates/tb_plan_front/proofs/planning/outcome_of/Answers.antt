use Rattle.std.proofs.Common.{Result, false, option_map, refl, subst}
use Rattle.tb_frame.specs.Promise.Table.{Table, table_of}
use Rattle.tb_node.specs.Seen.{tree_of}
use Rattle.tb_plan.specs.Gives.{Gives}
use Rattle.tb_plan.specs.declared.faults.PlanFault.{PlanFault}
use Rattle.tb_plan_request.specs.Lent.{pivot_view}
use Rattle.tb_plan_request.proofs.Asked.{due}
use Rattle.tb_plan_front.proofs.planning.outcome_of.Goals as goal

pub returns : goal.returns
returns g c =
    subst (λ (r : Result Table PlanFault). Gives table_of c.planned.result r)
    (due (record { tables = c.args.tables; root = c.args.root; pivot = c.args.pivot; push = false; exec = c.args.exec.now })
    c.args.tables.items c.args.tables.items (tree_of c.args.root) (option_map pivot_view c.args.pivot) refl refl refl refl)
    c.planned.ensures
