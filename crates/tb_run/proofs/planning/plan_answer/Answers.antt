use Rattle.tb_plan_request.specs.Lent.{plan_view}
use Rattle.tb_run.proofs.Planned.{plans_are_due}
use Rattle.tb_run.proofs.planning.plan_answer.Goals as goal

pub returns : goal.returns
returns g c = plans_are_due (plan_view c.args.request) c.planned-outcome.result (λ a. a.status) (λ a. a.text) _ c.planned-outcome.ensures c.plan_answered.ensures
