use Rattle.tb_tree.specs.View.{item_view, listed}
use Rattle.tb_why.specs.Steps.{step_spot}
use Rattle.tb_why.proofs.Walks.{Walk}
use Rattle.tb_why.proofs.steps.shapes_spot.Given as goal

abbrev pub invariant-loop-i : goal.invariant-loop-i
invariant-loop-i l = Walk (step_spot (item_view l.request)) (listed l.steps) l.i
