use Rattle.std.proofs.Common.{◌≡◌, IfOk, subst}
use Rattle.tb_chunk.specs.Promise.Col.{Col}
use Rattle.tb_store.proofs.Columns.{part-all}
use Rattle.tb_store.proofs.series.Series.rechunk.Goals as goal

pub returns : goal.returns
returns c = subst (λ (k : Col). IfOk c.part.result (λ s. s ≡ k)) (part-all c.args.self.now c.len.result c.len.ensures.viewed c.len.ensures.len) c.part.ensures
