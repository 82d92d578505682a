use Rattle.tb_run.proofs.Commands.{group_is_done}
use Rattle.tb_run.proofs.laws.group_is_done.Goals as goal

pub returns : goal.returns
returns c = group_is_done
