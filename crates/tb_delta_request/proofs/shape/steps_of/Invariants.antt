use Rattle.std.proofs.Common.{map}
use Rattle.tb_tree.specs.View.{view}
use Rattle.tb_json.proofs.LentValues.{Taking}
use Rattle.tb_request.specs.Lent.{written_view}
use Rattle.tb_delta_request.specs.Lent.{step_view}
use Rattle.tb_delta_request.specs.Promise.Written.{step_of}
use Rattle.tb_delta_request.proofs.shape.steps_of.Given as goal

abbrev pub invariant-loop-item : goal.invariant-loop-item
invariant-loop-item l = Taking view (step_of (map written_view l.left) (map written_view l.right)) l.initial.item-iterator.rest.items (map step_view l.steps.items) l.item-iterator.rest.items
