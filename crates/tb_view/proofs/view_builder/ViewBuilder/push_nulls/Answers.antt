use Rattle.std.proofs.Common.{arith, ◌≡◌, ◌∙◌, ◌+◌, ◌++◌, None, replicate, ap}
use Rattle.std.specs.Prelude.{vec_len}
use Rattle.tb_view.proofs.Filled.{nulls_pushed, resized}
use Rattle.tb_view.proofs.view_builder.ViewBuilder.push_nulls.Goals as goal

pub returns-clause-ok : goal.returns-clause-ok
returns-clause-ok c =
    let vs = c.self.inside.views.items in
    let now = c.reserve.new.self in
    let rows : c.resize.new.self.items ≡ vs ++ replicate c.args.times None =
    c.in_ok-resize.ensures.items ∙ resized now.items None (vec_len now) (c.len.result + c.args.times) c.args.times (omega (arith, now.ok.0)) (omega arith) ∙ ap (λ l. l ++ replicate c.args.times None) c.in_ok-reserve.ensures.items in
    rw (rows, ← c.self.view_is) (nulls_pushed c.self.inside.filling vs c.args.times c.self.invariant).1
