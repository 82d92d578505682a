use Rattle.tb_run.proofs.Frame.{valid_is_done}
use Rattle.tb_run.proofs.laws.valid_is_done.Goals as goal

pub returns : goal.returns
returns c = valid_is_done
