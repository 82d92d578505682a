-- What the program's values stand for.
use Rattle.std.specs.Prelude.{map, Option, Some, None}
use Rattle.tb_tree.specs.View.{view}
use Rattle.tb_delta.specs.declared.running.StepFault.{StepFault}
use Rattle.tb_request.specs.Lent.{written_view}
use Rattle.tb_request.specs.declared.shape.WrittenColumn.{WrittenColumn}
use Rattle.tb_value.specs.Promise.Kind.{Part}
use Rattle.tb_value.specs.declared.error.PolarsError.{PolarsError}
use Rattle.tb_value.specs.declared.error.PolarsError.TheVariants as refused
use Rattle.tb_delta.specs.declared.fault.DeltaFault.{DeltaFault}
use Rattle.tb_delta.specs.declared.fault.DeltaFault.TheVariants as fault
use Rattle.tb_value.specs.SeeKind.{kind_of}
use Rattle.tb_delta_request.specs.Promise.Answers.{Refusal, at_step, by_operation}
use Rattle.tb_delta_request.specs.Promise.Written as written
use Rattle.tb_delta_request.specs.declared.keeping.KeptFault.{KeptFault}
use Rattle.tb_delta_request.specs.declared.keeping.KeptFault.TheVariants.{OutOfMemory, Refused, Stopped}
use Rattle.tb_delta_request.specs.declared.shape.WrittenDelta.{WrittenDelta}
use Rattle.tb_delta_request.specs.declared.shape.WrittenStep.{WrittenStep}
use Rattle.tb_delta_request.specs.declared.shape.WrittenStep.TheVariants.{Insert, Remove}

-- the name and the type of a column
abbrev pub column_part : WrittenColumn → Part
column_part c = (c.name, kind_of c.dtype)

abbrev pub step_view : WrittenStep → written.WrittenStep
step_view (Insert side row) = written.insert side (map view row.items)
step_view (Remove side id) = written.remove side id

abbrev pub written_delta : WrittenDelta → written.WrittenDelta
written_delta w = record {
  left = map written_view w.left.items;
  left_on = w.left_on;
  right = map written_view w.right.items;
  right_on = w.right_on;
  join_nulls = w.join_nulls;
  steps = map step_view w.steps.items;
}

-- the refusal that a fault tells of; want of memory is none
abbrev pub refusal_view : KeptFault → Option Refusal
refusal_view OutOfMemory = None
refusal_view (Refused e) = Some (by_operation e)
refusal_view (Stopped f) = Some (at_step (f.step, f.fault))

-- what an error of tables becomes
abbrev pub refused_by : PolarsError → KeptFault
refused_by refused.OutOfMemory = OutOfMemory
refused_by e = Refused e

-- and what a fault of a step
abbrev pub stopped_for : StepFault → DeltaFault → KeptFault
stopped_for f fault.OutOfMemory = OutOfMemory
stopped_for f _ = Stopped f

abbrev pub stopped_by : StepFault → KeptFault
stopped_by f = stopped_for f f.fault
