use Rattle.std.proofs.Common.{arith, ◌≡◌, ◌∙◌, ap, length}
use Rattle.tb_view.proofs.ViewArrays.{only_run}
use Rattle.tb_chunk.proofs.grow.join_rows.Goals as goal

pub returns-then-rows-len-clause-views : goal.returns-then-rows-len-clause-views
returns-then-rows-len-clause-views g c =
    let only = c.index-chunks-0.result in
    c.in_ok-copy.ensures.views
    ∙ ap (λ r. r.views) (only_run g.C.Chunk.shown g.C.Chunk.views g.C.Chunk.buffers g.met.C.Chunk.viewed c.args.chunks.now only c.args.start c.args.len (omega arith) c.index-chunks-0.is (omega (arith, c.len-rows.ensures)) c.requires.within)
