use Rattle.tb_run.proofs.Commands.{dummies_is_done}
use Rattle.tb_run.proofs.laws.dummies_is_done.Goals as goal

pub returns : goal.returns
returns c = dummies_is_done
