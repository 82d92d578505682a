use Rattle.std.proofs.Common.{◌∙◌, ap, map, subst, sym}
use Rattle.tb_chunk.specs.Chunk.{or_null}
use Rattle.tb_sorted.specs.Columns.{AreMergeKeys}
use Rattle.tb_sorted.proofs.Numbers.{all_shown, none_absent, one_list}
use Rattle.tb_sorted.proofs.typed.lone_values.Goals as goal

pub unreachable-requires : goal.unreachable-requires
unreachable-requires g c =
    let shows = g.N.Cell.shows in
    let cells = c.index-chunks-0.result in
    let is = one_list (λ k. map (or_null shows) k) c.args.chunks.now cells c.requires.one ∙ sym (ap (map (or_null shows)) c.index-chunks-0.is) in
    none_absent shows g.N.WholeCell.number (g.met.N.WholeCell g.world.𝓛 g.world.𝓜 g.world.𝓡 ((λ s x. x), (λ x. x), (λ x. x), λ x. x)).shown cells (subst AreMergeKeys is c.requires.keys) c.in-None.ensures

pub returns : goal.returns
returns g c =
    let shows = g.N.Cell.shows in
    let cells = c.index-chunks-0.result in
    let is = one_list (λ k. map (or_null shows) k) c.args.chunks.now cells c.requires.one ∙ sym (ap (map (or_null shows)) c.index-chunks-0.is) in
    sym (is ∙ ap (map (or_null shows)) c.in-Some.ensures ∙ all_shown shows c.in-Some.values.now)
