use Rattle.std.proofs.Common.{◌∙◌, ℕ, Option, ap, length, unwrap_or}
use Rattle.std.specs.Prelude.{nat_le}
use Rattle.std.specs.List.{position_or_len}
use Rattle.tb_node.proofs.Lowering.{position_or_end}
use Rattle.tb_node.proofs.pushing.joins_above.Goals as goal

pub returns : goal.returns
returns c =
    let ws = c.args.widths.now in
    c.unwrap_or.ensures
    ∙ ap (λ (o : Option ℕ). unwrap_or o (length ws)) c.first_narrow.ensures
    ∙ position_or_end (λ (w : ℕ). nat_le w c.place_of-place.result) ws
    ∙ ap (λ (p : ℕ). position_or_len (λ w. nat_le w p) ws) c.place_of-place.ensures
