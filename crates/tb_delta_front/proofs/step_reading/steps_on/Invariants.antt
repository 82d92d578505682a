use Rattle.std.proofs.Common.{◌+◌, length}
use Rattle.std.specs.Prelude.{All}
use Rattle.tb_frame.specs.Promise.Table.{schema_of, table_of}
use Rattle.tb_delta.specs.Running.{steps_of}
use Rattle.tb_delta_front.specs.Promise.Steps.{Fits}
use Rattle.tb_delta_front.proofs.StepLines.{IsRead}
use Rattle.tb_delta_front.proofs.step_reading.steps_on.Given as goal

abbrev pub invariant-loop-rest : goal.invariant-loop-rest
invariant-loop-rest l = record {
  read : IsRead (schema_of (table_of l.left.columns.now)) (schema_of (table_of l.right.columns.now)) l.text (steps_of l.steps.items) (length l.steps.items + 1) l.rest;
  fit : All (Fits (schema_of (table_of l.left.columns.now)) (schema_of (table_of l.right.columns.now))) (steps_of l.steps.items);
}

abbrev pub decreases-loop-rest : goal.decreases-loop-rest
decreases-loop-rest l = length l.rest
