use Rattle.std.proofs.Common.{arith, ◌<◌, ◌^◌, Option, length, refl, subst, sym}
use Rattle.tb_value.specs.Promise.Datum.{binary}
use Rattle.tb_value.specs.Promise.Kind as kind
use Rattle.tb_value.specs.Promise.Typed.{HasType, IsBytes}
use Rattle.tb_chunk.specs.Chunk.{or_null}
use Rattle.tb_chunk.specs.View.{row_text, view_text}
use Rattle.tb_view.specs.declared.view.View.{View}
use Rattle.tb_store.proofs.ChunkTexts.{length-view_text}
use Rattle.tb_store.proofs.text_views.read_text.Goals as goal

pub returns-in-Some : goal.returns-in-Some
returns-in-Some c =
    let v = c.in-Some.view in
    let bs = c.args.buffers.now in
    let P : Option View → Type 0 = λ o. HasType kind.binary (or_null binary (row_text bs o)) in
    let short : length (view_text v bs) < 2 ^ 32 = omega (arith, length-view_text v bs) in
    subst P (sym c.in-Some.is) (refl, short, subst IsBytes c.text.ensures c.read_bytes.ensures)
