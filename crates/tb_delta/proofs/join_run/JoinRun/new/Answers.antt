use Rattle.tb_delta.proofs.Changed.{from_view}
use Rattle.tb_delta.proofs.join_run.JoinRun.new.Goals as goal

pub invariant_of-result : goal.invariant_of-result
invariant_of-result c =
    from_view c.view.inside.left c.view.inside.right c.view.inside.join_nulls c.view.inside.groups c.new-gone.result c.view.invariant c.new-gone.ensures
