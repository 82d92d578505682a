use Rattle.std.proofs.Common.{◌+◌, ◌<◌, ap, sym, ◌∙◌, length, get_or, arith, List, ℕ}
use Rattle.tb_rowkey.proofs.Evens.{even_at, even_count, place_low}
use Rattle.tb_rowkey.proofs.even_places.EvenPlaces.at.Goals as goal

pub overflow_mul-result : goal.overflow_mul-result
overflow_mul-result c =
    let width = c.self.inside.width in
    let gaps = c.self.inside.gaps in
    let low : c.args.index < gaps + 1 = omega (arith, c.requires, even_count width (gaps + 1), ap length c.self.view_is) in
    omega (arith, place_low width gaps c.args.index low, c.self.invariant.within)

pub returns : goal.returns
returns c =
    let width = c.self.inside.width in
    let gaps = c.self.inside.gaps in
    let low : c.args.index < gaps + 1 = omega (arith, c.requires, even_count width (gaps + 1), ap length c.self.view_is) in
    sym (even_at width (gaps + 1) c.args.index low) ∙ ap (λ (ps : List ℕ). get_or ps c.args.index 0) c.self.view_is
