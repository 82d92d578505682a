use Rattle.tb_node.specs.Seen.{tree_of}
use Rattle.tb_plan_front.proofs.Planned.{told_fault}
use Rattle.tb_plan_front.proofs.planning.planned_table.Goals as goal

pub returns-in-Err : goal.returns-in-Err
returns-in-Err g c =
    rw c.told.ensures
    (told_fault c.args.call c.deref.result.now c.args.tables.items (tree_of c.in_ok-root.root) c.in_ok-nodes.nodes.items c.deref.ensures.value c.in_ok-root.ensures c.in_ok-nodes.ensures c.in-Err.fault c.in-Err.ensures)
