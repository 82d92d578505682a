use Rattle.tb_run.proofs.Commands.{join_is_done}
use Rattle.tb_run.proofs.laws.join_is_done.Goals as goal

pub returns : goal.returns
returns c = join_is_done
