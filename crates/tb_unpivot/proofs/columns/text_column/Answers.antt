use Rattle.std.proofs.Common.{◌∙◌, ◌∷◌, [], ◌++◌, arith, ap, map, refl}
use Rattle.std.proofs.lemmas.List.{length-map}
use Rattle.tb_value.specs.Promise.Datum.{string}
use Rattle.tb_chunk.specs.Chunk.{or_null}
use Rattle.tb_chunk.specs.View.{texts}
use Rattle.tb_chunk.specs.declared.chunk.StringChunk.{StringChunk}
use Rattle.tb_unpivot.proofs.Lists.{text_column_is, text_plain}
use Rattle.tb_unpivot.proofs.columns.text_column.Goals as goal

pub from_parts-series-requires-clause-column : goal.from_parts-series-requires-clause-column
from_parts-series-requires-clause-column c =
    let rows = texts c.args.chunk.inner.buffers.items c.args.chunk.inner.views.items in
    text_column_is _ (map (or_null string) rows) (omega (arith, length-map rows (or_null string), c.requires.few)) c.requires.typed c.text_type.ensures
    (ap (map (λ (b : StringChunk). map (or_null string) (texts b.inner.buffers.items b.inner.views.items))) (c.in_ok-push.ensures.items ∙ ap (λ l. l ++ c.args.chunk ∷ []) c.in_ok-chunks.ensures.items))
    refl

pub returns : goal.returns
returns c =
    let rows = texts c.args.chunk.inner.buffers.items c.args.chunk.inner.views.items in
    text_plain c.into_column.result c.args.name _ _ (map (or_null string) rows) (c.into_column.ensures ∙ c.from_parts-series.ensures) c.text_type.ensures
    (ap (map (λ (b : StringChunk). map (or_null string) (texts b.inner.buffers.items b.inner.views.items))) (c.in_ok-push.ensures.items ∙ ap (λ l. l ++ c.args.chunk ∷ []) c.in_ok-chunks.ensures.items))
