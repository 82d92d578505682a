use Rattle.tb_delta.specs.Running.{step_of}
use Rattle.tb_delta_front.proofs.KeptSteps.{step_refused}
use Rattle.tb_delta_front.proofs.deltas.do_step.Goals as goal

pub returns-in-Err : goal.returns-in-Err
returns-in-Err c =
    step_refused c.args.line c.args.run.now c.step.new.self (step_of c.args.step) c.step_row-row.result c.in-Err.fault c.fault_at.result c.step_row-row.ensures c.fault_at.ensures c.requires c.in-Err.ensures
