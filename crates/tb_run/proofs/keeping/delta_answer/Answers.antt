use Rattle.tb_run.proofs.Kept.{done_are_due, refused_are_due}
use Rattle.tb_run.proofs.keeping.delta_answer.Goals as goal

pub returns-in-Ok : goal.returns-in-Ok
returns-in-Ok g c = done_are_due _ _ _ (λ a. a.status) (λ a. a.text) _ c.in-Ok.ensures.settles c.in-Ok.ensures.answer c.kept_answer.ensures

pub returns-in-Err : goal.returns-in-Err
returns-in-Err g c = refused_are_due _ _ (λ a. a.status) (λ a. a.text) _ c.in-Err.ensures.settles c.kept_refused.ensures
