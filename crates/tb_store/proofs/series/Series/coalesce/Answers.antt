use Rattle.std.proofs.Common.{◌∙◌, refl, ◌∷◌, []}
use Rattle.tb_chunk.specs.Promise.Col.{concatenation}
use Rattle.tb_chunk.specs.Coalesced.{coalesced_values}
use Rattle.tb_chunk.proofs.CoalescedLists.{merged_column}
use Rattle.tb_store.proofs.Columns.{one_alone}
use Rattle.tb_store.proofs.series.Series.coalesce.Goals as goal

pub from_parts-requires-clause-column : goal.from_parts-requires-clause-column
from_parts-requires-clause-column c =
    merged_column c.args.self.now c.args.other.now _ c.len-len.ensures.column c.len-other_len.ensures.column c.requires.kind c.requires.len (c.in_ok-dtype.ensures ∙ c.dtype.ensures)
    (c.in_ok-chunks.ensures.lists ∙ (λ i. coalesced_values (concatenation (c.chunks.ensures.lists i)) (concatenation (c.chunks-2.ensures.lists i)) ∷ []))
    refl

pub from_parts-requires-clause-few_buffers : goal.from_parts-requires-clause-few_buffers
from_parts-requires-clause-few_buffers c = one_alone _ _ c.in_ok-chunks.ensures.lists
