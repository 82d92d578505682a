use Rattle.std.proofs.Common.{◌≡◌, ◌∙◌, None, ap, arith, map, sym, take}
use Rattle.std.specs.List.{All}
use Rattle.std.proofs.lemmas.List.{take_more, take_all}
use Rattle.std.proofs.lemmas.Result.{IfOk-weaker}
use Rattle.tb_value.specs.Promise.Datum.{binary}
use Rattle.tb_value.specs.Promise.Kind as kind
use Rattle.tb_value.specs.Promise.Typed.{HasType}
use Rattle.tb_chunk.specs.Chunk.{or_null}
use Rattle.tb_view.specs.Promise.Layout.{buffers_of, text_view_array}
use Rattle.tb_chunk.specs.Layout.{building_of, with_row}
use Rattle.tb_chunk.specs.View.{texts}
use Rattle.tb_chunk.specs.declared.owned_chunks.BinaryChunk.{BinaryChunk}
use Rattle.tb_chunk.proofs.Filled.{built-push}
use Rattle.tb_rowkey.proofs.keys.chunk_of.Goals as goal

pub loop-row-preserved : goal.loop-row-preserved
loop-row-preserved c =
    let keys = c.args.keys.now in
    let row = c.loop-row.row in
    c.in_ok-push_option.ensures.ok
    ∙ (λ i. with_row (c.loop-row.invariant i) (c.get.ensures.value i))
    ∙ built-push (take row keys) _
    ∙ ap building_of (sym (take_more keys row None (omega (arith, c.loop-row-test.true, c.len-rows.ensures.exact))))

pub returns-clause-value : goal.returns-clause-value
returns-clause-value c =
    let keys = c.args.keys.now in
    let all : c.loop-row.builder ≡ building_of keys = c.loop-row.invariant ∙ ap building_of (take_all c.loop-row.row keys (omega (arith, c.loop-row-test.false, c.len-rows.ensures.exact))) in
    IfOk-weaker c.finish.result (λ (b : BinaryChunk). texts b.inner.buffers.items b.inner.views.items ≡ c.loop-row.builder.rows)
    (λ (b : BinaryChunk). texts b.inner.buffers.items b.inner.views.items ≡ keys) (λ b h. h ∙ ap (λ x. x.rows) all) c.finish.ensures.bytes

pub returns-clause-views : goal.returns-clause-views
returns-clause-views c =
    let keys = c.args.keys.now in
    let all : c.loop-row.builder ≡ building_of keys = c.loop-row.invariant ∙ ap building_of (take_all c.loop-row.row keys (omega (arith, c.loop-row-test.false, c.len-rows.ensures.exact))) in
    IfOk-weaker c.finish.result (λ (b : BinaryChunk). b.inner.views.items ≡ c.loop-row.builder.views)
    (λ (b : BinaryChunk). b.inner.views.items ≡ (text_view_array keys).views) (λ b h. h ∙ ap (λ x. x.views) all) c.finish.ensures.views

pub returns-clause-buffers : goal.returns-clause-buffers
returns-clause-buffers c =
    let keys = c.args.keys.now in
    let all : c.loop-row.builder ≡ building_of keys = c.loop-row.invariant ∙ ap building_of (take_all c.loop-row.row keys (omega (arith, c.loop-row-test.false, c.len-rows.ensures.exact))) in
    IfOk-weaker c.finish.result (λ (b : BinaryChunk). b.inner.buffers.items ≡ buffers_of c.loop-row.builder.laid)
    (λ (b : BinaryChunk). b.inner.buffers.items ≡ (text_view_array keys).buffers) (λ b h. h ∙ ap (λ x. buffers_of x.laid) all) c.finish.ensures.buffers

pub returns-clause-typed : goal.returns-clause-typed
returns-clause-typed c =
    let keys = c.args.keys.now in
    let all : c.loop-row.builder ≡ building_of keys = c.loop-row.invariant ∙ ap building_of (take_all c.loop-row.row keys (omega (arith, c.loop-row-test.false, c.len-rows.ensures.exact))) in
    IfOk-weaker c.finish.result (λ (b : BinaryChunk). texts b.inner.buffers.items b.inner.views.items ≡ c.loop-row.builder.rows)
    (λ (b : BinaryChunk). All (HasType kind.binary) (map (or_null binary) keys)) (λ b h. rw (sym (ap (λ x. x.rows) all)) c.finish.ensures.typed) c.finish.ensures.bytes
