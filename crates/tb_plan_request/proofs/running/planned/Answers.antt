use Rattle.tb_node.specs.Seen.{tree_of}
use Rattle.tb_plan_request.proofs.Asked.{due}
use Rattle.tb_plan_request.proofs.running.planned.Goals as goal

pub returns : goal.returns
returns g c = rw (due c.args.request c.deref.result.now c.deref-2.result.now (tree_of c.in_ok-root.root) _ c.deref.ensures.value c.deref-2.ensures.value c.in_ok-root.ensures c.args_of_pivot.ensures) c.run_plan.ensures
