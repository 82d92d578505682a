use Rattle.tb_run.proofs.Commands.{plan_is_done}
use Rattle.tb_run.proofs.laws.plan_is_done.Goals as goal

pub returns : goal.returns
returns c = plan_is_done
