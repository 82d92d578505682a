use Rattle.std.proofs.Common.{map}
use Rattle.std.specs.Prelude.{All}
use Rattle.tb_json.proofs.LentValues.{Taking}
use Rattle.tb_delta.specs.Running.{steps_of}
use Rattle.tb_request.specs.Lent.{written_view}
use Rattle.tb_delta_request.specs.Lent.{column_part, step_view}
use Rattle.tb_delta_request.specs.Promise.Reading.{Fits, step_in}
use Rattle.tb_delta_request.proofs.rows.steps_from.Given as goal

abbrev pub invariant-loop-item : goal.invariant-loop-item
invariant-loop-item l = record {
  read : Taking step_view (step_in (map written_view l.left) (map written_view l.right)) l.initial.item-iterator.rest.items (steps_of l.steps.items) l.item-iterator.rest.items;
  fit : All (Fits (map column_part l.left) (map column_part l.right)) (steps_of l.steps.items);
}
