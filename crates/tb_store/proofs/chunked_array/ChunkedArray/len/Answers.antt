use Rattle.std.proofs.Common.{subst}
use Rattle.tb_chunk.specs.Promise.Col.{Col}
use Rattle.tb_chunk.specs.ViewArrays.{AreViewed}
use Rattle.tb_chunk.proofs.ViewArrays.{runs_viewed}
use Rattle.tb_store.proofs.chunked_array.ChunkedArray.len.Goals as goal

pub returns-clause-viewed : goal.returns-clause-viewed
returns-clause-viewed g c =
    let law = runs_viewed g.T.Array.Chunk.shown g.T.Array.Chunk.views g.T.Array.Chunk.buffers g.met.T.Array.Chunk.viewed c.self.inside.chunks.items in
    subst (λ (k : Col). AreViewed k.chunks k.view_arrays) c.self.view_is law
