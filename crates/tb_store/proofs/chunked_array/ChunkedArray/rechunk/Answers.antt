use Rattle.std.proofs.Common.{◌≡◌, IfOk, subst}
use Rattle.tb_chunk.specs.Promise.Col.{Col}
use Rattle.tb_store.proofs.Columns.{part-all}
use Rattle.tb_store.proofs.chunked_array.ChunkedArray.rechunk.Goals as goal

pub returns : goal.returns
returns g c = subst (λ (k : Col). IfOk c.part.result (λ a. a ≡ k)) (part-all c.args.self.now c.len.result c.len.ensures.viewed c.len.ensures.len) c.part.ensures
