use Rattle.std.proofs.Common.{◌≡◌, ◌∙◌, ◌++◌, [], ap, drop, get_or, map, sym, take}
use Rattle.std.proofs.lemmas.List.{get_or-map}
use Rattle.tb_view.specs.Moved.{moved_view}
use Rattle.tb_chunk.proofs.PlainRows.{none_moved}
use Rattle.tb_chunk.proofs.growing.Growing.append_block.Goals as goal

pub returns-clause-views : goal.returns-clause-views
returns-clause-views g c =
    let views = g.C.Chunk.views in
    let other = c.index-chunks-chunk.result in
    let n = c.in_ok-block.block in
    let base = get_or c.args.self.now.bases.items c.args.chunk 0 in
    let old = views c.args.self.now.chunk in
    let here : get_or (map views c.args.chunks.now) c.args.chunk [] ≡ views other = get_or-map views c.args.chunks.now c.args.chunk other [] c.requires.chunk ∙ ap views (sym c.index-chunks-chunk.is) in
    c.in_ok-block.ensures.views
    ∙ ap (λ vs. old ++ vs) (sym (none_moved base (take n (drop c.args.from (views other))) c.in_ok-block.ensures.none))
    ∙ ap (λ vs. old ++ map (moved_view base) (take n (drop c.args.from vs))) (sym here)
