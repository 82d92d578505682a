use Rattle.tb_run.proofs.Commands.{pivot_is_done}
use Rattle.tb_run.proofs.laws.pivot_is_done.Goals as goal

pub returns : goal.returns
returns c = pivot_is_done
