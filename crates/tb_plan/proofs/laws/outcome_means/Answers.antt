use Rattle.tb_plan.proofs.Outcomes.{outcome_means}
use Rattle.tb_plan.proofs.laws.outcome_means.Goals as goal

pub returns : goal.returns
returns c = outcome_means
