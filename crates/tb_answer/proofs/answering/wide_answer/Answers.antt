use Rattle.tb_answer.proofs.Answered.{pivot_is_due}
use Rattle.tb_answer.proofs.answering.wide_answer.Goals as goal

pub returns : goal.returns
returns c = pivot_is_due c.args.request _ (λ a. a.status) (λ a. a.text) _ c.made_wide-outcome.ensures.settles c.made_wide-outcome.ensures.table c.answered.ensures
