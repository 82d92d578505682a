use Rattle.tb_answer.proofs.Answered.{fault_is_due}
use Rattle.tb_answer.proofs.answering.answer_join.Goals as goal

pub returns-in-Err : goal.returns-in-Err
returns-in-Err c = fault_is_due _ _ _ _ (λ a. a.status) (λ a. a.text) _ c.in-Err.ensures c.no_request.ensures
