use Rattle.std.proofs.Common.{subst}
use Rattle.tb_chunk.specs.Promise.Col.{Col}
use Rattle.tb_chunk.specs.ViewArrays.{AreViewed}
use Rattle.tb_chunk.proofs.ChunkViewArrays.{chunks_viewed}
use Rattle.tb_store.proofs.series.Series.len.Goals as goal

pub returns-clause-viewed : goal.returns-clause-viewed
returns-clause-viewed c = subst (λ (k : Col). AreViewed k.chunks k.view_arrays) c.self.view_is (chunks_viewed c.self.inside.chunks)
