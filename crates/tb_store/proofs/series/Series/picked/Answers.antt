use Rattle.std.proofs.Common.{◌∙◌, ap, refl, map, ◌∷◌, []}
use Rattle.tb_chunk.specs.Promise.Col.{concatenation}
use Rattle.tb_chunk.specs.Rows.{value_or_null}
use Rattle.tb_store.proofs.Columns.{one_alone, picked_column}
use Rattle.tb_store.proofs.series.Series.picked.Goals as goal

pub from_parts-requires-clause-column : goal.from_parts-requires-clause-column
from_parts-requires-clause-column g c =
    picked_column c.args.self.now _ g.R.RowNumber.number c.args.rows.now c.len-len.ensures.column c.requires.rows c.requires.few (c.in_ok-dtype.ensures ∙ c.dtype.ensures)
    (c.in_ok-chunks.ensures.lists ∙ ap (λ cs. map (λ r. value_or_null (concatenation cs) (g.R.RowNumber.number r)) c.args.rows.now ∷ []) c.chunks.ensures.lists)
    refl

pub from_parts-requires-clause-few_buffers : goal.from_parts-requires-clause-few_buffers
from_parts-requires-clause-few_buffers g c = one_alone _ _ c.in_ok-chunks.ensures.lists
