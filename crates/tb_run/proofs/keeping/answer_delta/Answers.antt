use Rattle.tb_run.specs.Promise.Requests.{delta}
use Rattle.tb_run.proofs.Answered.{fault_is_due}
use Rattle.tb_run.proofs.keeping.answer_delta.Goals as goal

pub returns-in-Err : goal.returns-in-Err
returns-in-Err g c = fault_is_due delta _ _ (λ a. a.status) (λ a. a.text) _ c.in-Err.ensures.request c.no_request.ensures
