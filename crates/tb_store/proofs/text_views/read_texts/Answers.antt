use Rattle.std.proofs.Common.{arith, Option, map, subst}
use Rattle.std.specs.List.{All}
use Rattle.std.proofs.lemmas.List.{take_all}
use Rattle.std.proofs.lemmas.List.Elements.{All-map, All-more}
use Rattle.tb_value.specs.Promise.Datum.{binary}
use Rattle.tb_value.specs.Promise.Kind as kind
use Rattle.tb_value.specs.Promise.Typed.{HasType}
use Rattle.tb_chunk.specs.Chunk.{or_null}
use Rattle.tb_chunk.specs.View.{row_text, texts}
use Rattle.tb_view.specs.declared.view.View.{View}
use Rattle.tb_store.proofs.text_views.read_texts.Goals as goal

pub loop-view-preserved : goal.loop-view-preserved
loop-view-preserved c =
    let P : Option View → Type 0 = λ o. HasType kind.binary (or_null binary (row_text c.args.buffers.now o)) in
    All-more P c.args.views.now c.loop-view.view-index _ c.loop-view-test.true c.loop-view.invariant c.read_text.ensures

pub returns : goal.returns
returns c =
    let bs = c.args.buffers.now in
    let vs = c.args.views.now in
    let P : Option View → Type 0 = λ o. HasType kind.binary (or_null binary (row_text bs o)) in
    let each : All P vs = subst (All P) (take_all c.loop-view.view-index vs (omega arith)) c.loop-view.invariant in
    All-map (HasType kind.binary) (or_null binary) (texts bs vs) (All-map (λ t. HasType kind.binary (or_null binary t)) (row_text bs) vs each)
