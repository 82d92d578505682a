use Rattle.std.proofs.Common.{◌∙◌, sym, refl}
use Rattle.tb_value.specs.Promise.Datum.{binary}
use Rattle.tb_chunk.proofs.Rows.{nulls_of_texts}
use Rattle.tb_chunk.proofs.owned_chunks.BinaryChunkChunk.null_count.Goals as goal

pub returns : goal.returns
returns c = c.null_count.ensures ∙ sym (nulls_of_texts binary (λ t. refl) c.args.self.now.inner.buffers.items c.args.self.now.inner.views.items)
