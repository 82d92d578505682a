use Rattle.std.proofs.Common.{arith, ◌≡◌, ◌∙◌, [], length, map, subst, get_or}
use Rattle.std.proofs.lemmas.Grind.{common_steps}
use Rattle.std.proofs.lemmas.List.{length-map}
use Rattle.tb_value.specs.Promise.Datum.{string}
use Rattle.tb_chunk.specs.Chunk.{or_null}
use Rattle.tb_chunk.specs.Col.{IsColumn}
use Rattle.tb_chunk.specs.View.{row_text, texts}
use Rattle.tb_chunk.specs.ViewArrays.{view_array_at}
use Rattle.tb_store.proofs.ChunkTexts.{few_in_chunk, utf8_in_chunk}
use Rattle.tb_store.proofs.text_views.ChunkedArray+StringType.views.Goals as goal

pub returns-clause-few : goal.returns-clause-few
returns-clause-few c =
    let self = c.args.self.now in
    let bs = (view_array_at self.view_arrays c.args.chunk).buffers in
    let ts = texts bs c.views.result.now in
    let column = subst IsColumn c.self.view_is c.self.invariant.1 in
    let is : get_or self.chunks c.args.chunk [] ≡ map (or_null string) ts = grind (arith, common_steps) in
    few_in_chunk self c.args.chunk (length c.views.result.now) (map (or_null string) ts) column c.requires is (length-map ts (or_null string) ∙ length-map c.views.result.now (row_text bs))

pub returns-clause-utf8 : goal.returns-clause-utf8
returns-clause-utf8 c =
    let self = c.args.self.now in
    let ts = texts (view_array_at self.view_arrays c.args.chunk).buffers c.views.result.now in
    let column = subst IsColumn c.self.view_is c.self.invariant.1 in
    let is : get_or self.chunks c.args.chunk [] ≡ map (or_null string) ts = grind (arith, common_steps) in
    utf8_in_chunk self c.args.chunk ts column c.requires is
