use Rattle.std.proofs.Common.{◌≡◌, ◌∙◌, sym, ap, length, arith}
use Rattle.std.proofs.lemmas.List.{length-map}
use Rattle.tb_value.specs.See.{datum}
use Rattle.tb_value.proofs.Lengths.{lengths_differ}
use Rattle.tb_value.proofs.same.+same.Goals as goal

pub same_lists-returns-then-len : goal.same_lists-returns-then-len
same_lists-returns-then-len t c =
    let f : length c.args.first.now ≡ length c.first.inside.items.items = sym (ap length c.first.view_is) ∙ length-map _ datum in
    let g : length c.args.second.now ≡ length c.second.inside.items.items = sym (ap length c.second.view_is) ∙ length-map _ datum in
    lengths_differ c.args.first.now c.args.second.now
    (λ e. c.if-len.true (omega (arith, c.len.ensures, c.len-2.ensures, c.first.inside.items.ok.0, c.second.inside.items.ok.0, e, f, g)))
