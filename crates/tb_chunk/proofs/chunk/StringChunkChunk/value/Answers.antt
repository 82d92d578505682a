use Rattle.std.proofs.Common.{arith, ◌∙◌, ◌<◌, ap, sym, length}
use Rattle.std.specs.Option.{option_map}
use Rattle.std.proofs.lemmas.List.{length-map}
use Rattle.tb_value.specs.Promise.Datum.{string}
use Rattle.tb_cell.specs.Shown.{or_null}
use Rattle.tb_view.specs.View.{texts}
use Rattle.tb_chunk.proofs.Rows.{IsUtf8-at}
use Rattle.tb_chunk.proofs.chunk.StringChunkChunk.value.Goals as goal

pub returns-in-Some-clause-text : goal.returns-in-Some-clause-text
returns-in-Some-clause-text c =
    let ts = texts c.args.self.now.inner.buffers.items c.args.self.now.inner.views.items in
    let low : c.args.row < length ts = omega (arith, c.requires, length-map ts (or_null string)) in
    IsUtf8-at ts c.args.row c.in-Some.text.now low c.args.self.now.utf8 (sym (ap (option_map (λ t. t.now)) c.in-Some.is) ∙ c.get.ensures)
