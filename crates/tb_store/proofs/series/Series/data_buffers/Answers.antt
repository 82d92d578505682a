use Rattle.std.proofs.Common.{arith, ◌∙◌, ap, inl, inr, ℕ, List, length}
use Rattle.tb_chunk.specs.Promise.Col.{Col}
use Rattle.tb_chunk.specs.Col.{physical}
use Rattle.tb_chunk.specs.ChunkViewArrays.{chunk_view_arrays}
use Rattle.tb_store.proofs.ChunkTexts.{few_in_run}
use Rattle.tb_store.proofs.series.Series.data_buffers.Goals as goal

pub data_buffers-requires-clause-text : goal.data_buffers-requires-clause-text
data_buffers-requires-clause-text c = elim c.requires.text [
  | inl h ↦ inl (c.self.invariant.0 ∙ ap physical (ap (λ (k : Col). k.kind) c.self.view_is ∙ h))
  | inr h ↦ inr (c.self.invariant.0 ∙ ap physical (ap (λ (k : Col). k.kind) c.self.view_is ∙ h))
]

pub returns-clause-few : goal.returns-clause-few
returns-clause-few c = omega (arith, ap (λ (bs : List (List ℕ)). length bs) c.data_buffers.ensures, few_in_run (chunk_view_arrays c.self.inside.chunks) c.args.chunk c.self.invariant.2)
