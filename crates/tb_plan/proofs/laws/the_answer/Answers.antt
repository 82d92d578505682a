use Rattle.tb_plan.proofs.TheAnswer.{the_one}
use Rattle.tb_plan.proofs.laws.the_answer.Goals as goal

pub returns : goal.returns
returns c = the_one
