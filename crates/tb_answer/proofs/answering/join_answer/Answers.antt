use Rattle.tb_answer.proofs.Answered.{join_is_due}
use Rattle.tb_answer.proofs.answering.join_answer.Goals as goal

pub returns : goal.returns
returns c = join_is_due c.args.request _ (λ a. a.status) (λ a. a.text) _ c.joined-outcome.ensures.settles c.joined-outcome.ensures.answer c.join_answered.ensures
