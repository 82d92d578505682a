use Rattle.tb_tree.specs.View.{item_view, listed}
use Rattle.tb_why.specs.Lent.{kinds_of}
use Rattle.tb_why.specs.Steps.{step_values_spot}
use Rattle.tb_why.proofs.Walks.{Walk}
use Rattle.tb_why.proofs.steps.each_values_spot.Given as goal

abbrev pub invariant-loop-i : goal.invariant-loop-i
invariant-loop-i l = Walk (step_values_spot (kinds_of l.types.left) (kinds_of l.types.right)) (listed l.steps) l.i
