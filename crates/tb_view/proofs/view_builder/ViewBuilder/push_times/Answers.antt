use Rattle.std.proofs.Common.{arith, ◌≡◌, ◌∙◌, ◌+◌, ◌++◌, Option, Some, replicate, ap}
use Rattle.std.specs.Prelude.{vec_len}
use Rattle.tb_view.specs.declared.view.View.{View}
use Rattle.tb_view.proofs.Filled.{resized, rows_pushed}
use Rattle.tb_view.proofs.view_builder.ViewBuilder.push_times.Goals as goal

pub returns-clause-ok : goal.returns-clause-ok
returns-clause-ok c =
    let vs = c.self.inside.views.items in
    let now = c.reserve.new.self in
    let w : Option View = Some c.in_ok-view.view in
    let rows : c.resize.new.self.items ≡ vs ++ replicate c.args.times w =
    c.in_ok-resize.ensures.items ∙ resized now.items w (vec_len now) (c.len.result + c.args.times) c.args.times (omega (arith, now.ok.0)) (omega arith) ∙ ap (λ l. l ++ replicate c.args.times w) c.in_ok-reserve.ensures.items in
    rw (rows, ← c.self.view_is) (rows_pushed c.self.inside.filling c.view_of.new.self vs c.args.text.now w c.args.times c.in_ok-view.ensures.ok c.self.invariant).1
