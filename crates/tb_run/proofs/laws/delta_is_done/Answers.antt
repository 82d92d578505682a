use Rattle.tb_run.proofs.Commands.{delta_is_done}
use Rattle.tb_run.proofs.laws.delta_is_done.Goals as goal

pub returns : goal.returns
returns c = delta_is_done
