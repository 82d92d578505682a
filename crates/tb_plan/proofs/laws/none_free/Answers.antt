use Rattle.tb_plan.proofs.TheAnswer.{none_free}
use Rattle.tb_plan.proofs.laws.none_free.Goals as goal

pub returns : goal.returns
returns c = none_free
