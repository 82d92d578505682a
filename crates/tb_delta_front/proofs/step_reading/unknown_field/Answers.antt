use Rattle.tb_tree.specs.View.{view}
use Rattle.tb_delta_front.proofs.StepRows.{unknown_is}
use Rattle.tb_delta_front.proofs.step_reading.unknown_field.Goals as goal

pub loop-name-init : goal.loop-name-init
loop-name-init c = let h = unknown_is c.args.side.now.columns.now (view c.args.row.now) _ c.in-Some.ensures in cc
