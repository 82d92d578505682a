use Rattle.tb_delta.proofs.Changed.{to_view}
use Rattle.tb_delta.proofs.join_run.JoinRun.into_view.Goals as goal

pub settled-requires : goal.settled-requires
settled-requires c = c.self.invariant.ascend

pub invariant_of-result : goal.invariant_of-result
invariant_of-result c =
    to_view c.self.inside.left c.self.inside.right c.self.inside.join_nulls c.self.inside.groups c.settled.result c.self.invariant c.settled.ensures.ids
