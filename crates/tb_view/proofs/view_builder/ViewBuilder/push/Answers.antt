use Rattle.std.proofs.Common.{Some}
use Rattle.tb_view.proofs.Filled.{row_pushed}
use Rattle.tb_view.proofs.view_builder.ViewBuilder.push.Goals as goal

pub invariant_of-self-2 : goal.invariant_of-self-2
invariant_of-self-2 c =
    rw (c.push_reserved.ensures.items, c.in_ok-reserve.ensures.items)
    (row_pushed c.self.inside.filling c.view_of.new.self c.self.inside.views.items (Some c.args.text.now) (Some c.in_ok-view.view) c.in_ok-view.ensures.ok c.self.invariant).0

pub returns-clause-ok : goal.returns-clause-ok
returns-clause-ok c =
    rw (c.push_reserved.ensures.items, c.in_ok-reserve.ensures.items, ← c.self.view_is)
    (row_pushed c.self.inside.filling c.view_of.new.self c.self.inside.views.items (Some c.args.text.now) (Some c.in_ok-view.view) c.in_ok-view.ensures.ok c.self.invariant).1
