use Rattle.std.proofs.Common.{◌∙◌, ap}
use Rattle.tb_view.specs.View.{texts}
use Rattle.tb_view.proofs.Filled.{rows-begun}
use Rattle.tb_view.proofs.view_builder.ViewBuilder.finish.Goals as goal

pub invariant_of-result : goal.invariant_of-result
invariant_of-result c = record {
  formed = rw c.in_ok-buffers.ensures.buffers (rows-begun c.self.inside.filling c.self.inside.views.items c.self.invariant).0;
  few = c.in_ok-buffers.ensures.few;
}

pub returns-clause-texts : goal.returns-clause-texts
returns-clause-texts c =
    let vs = c.self.inside.views.items in
    ap (λ bs. texts bs vs) c.in_ok-buffers.ensures.buffers ∙ (rows-begun c.self.inside.filling vs c.self.invariant).1 ∙ ap (λ b. b.rows) c.self.view_is
