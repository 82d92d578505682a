use Rattle.tb_run.proofs.Answered.{dummies_are_due}
use Rattle.tb_run.proofs.answering.dummies_answer.Goals as goal

pub returns : goal.returns
returns c = dummies_are_due c.args.request _ (λ a. a.status) (λ a. a.text) _ c.with_dummies-outcome.ensures.settles c.with_dummies-outcome.ensures.table c.answered.ensures
