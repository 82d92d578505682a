use Rattle.tb_run.proofs.Commands.{unpivot_is_done}
use Rattle.tb_run.proofs.laws.unpivot_is_done.Goals as goal

pub returns : goal.returns
returns c = unpivot_is_done
