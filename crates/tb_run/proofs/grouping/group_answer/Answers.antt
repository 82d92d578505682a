use Rattle.tb_group_request.specs.Promise.Reading.{group_view}
use Rattle.tb_run.proofs.GroupedTables.{groups_are_due}
use Rattle.tb_run.proofs.grouping.group_answer.Goals as goal

pub returns : goal.returns
returns g c =
    groups_are_due (group_view c.args.request) _ (λ a. a.status) (λ a. a.text) _ c.grouped-outcome.ensures.settles c.grouped-outcome.ensures.answer c.group_answered.ensures
