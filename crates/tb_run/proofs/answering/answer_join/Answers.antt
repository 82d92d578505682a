use Rattle.tb_run.specs.Promise.Requests.{join}
use Rattle.tb_run.proofs.Answered.{fault_is_due}
use Rattle.tb_run.proofs.answering.answer_join.Goals as goal

pub returns-in-Err : goal.returns-in-Err
returns-in-Err g c = fault_is_due join _ _ (λ a. a.status) (λ a. a.text) _ c.in-Err.ensures c.no_request.ensures
