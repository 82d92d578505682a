use Rattle.tb_run.proofs.Answered.{join_is_due}
use Rattle.tb_run.proofs.answering.join_answer.Goals as goal

pub returns : goal.returns
returns g c = join_is_due c.args.request _ (λ a. a.status) (λ a. a.text) _ c.joined_traced-outcome.ensures.settles c.joined_traced-outcome.ensures.answer c.joined_traced-outcome.ensures.traced c.join_answered.ensures
