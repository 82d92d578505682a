use Rattle.tb_answer.proofs.Answered.{long_is_due}
use Rattle.tb_answer.proofs.answering.long_answer.Goals as goal

pub returns : goal.returns
returns c = long_is_due c.args.request _ (λ a. a.status) (λ a. a.text) _ c.made_long-outcome.ensures.settles c.made_long-outcome.ensures.table c.answered.ensures
