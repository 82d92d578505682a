use Rattle.tb_plan.proofs.BeforeJoin.{before_join}
use Rattle.tb_plan.proofs.laws.before_join.Goals as goal

pub returns : goal.returns
returns c = before_join
