use Rattle.std.proofs.Common.{rules, ◌≡◌, ◌∙◌, ap, inl, inr, [], length, map, subst, get_or}
use Rattle.tb_value.specs.Promise.Datum.{string}
use Rattle.tb_chunk.specs.Chunk.{or_null}
use Rattle.tb_chunk.specs.Promise.Col.{Col}
use Rattle.tb_chunk.specs.Col.{IsColumn, physical}
use Rattle.tb_chunk.specs.TextValues.{text_values}
use Rattle.tb_chunk.specs.View.{texts}
use Rattle.tb_chunk.specs.ViewArrays.{view_array_at}
use Rattle.tb_store.proofs.ChunkTexts.{few_in_chunk, length-text_values, utf8_in_chunk}
use Rattle.tb_store.proofs.series.Series.views.Goals as goal

pub views-requires-clause-text : goal.views-requires-clause-text
views-requires-clause-text c = elim c.requires.text [
  | inl h ↦ inl (c.self.invariant.0 ∙ ap physical (ap (λ (k : Col). k.kind) c.self.view_is ∙ h))
  | inr h ↦ inr (c.self.invariant.0 ∙ ap physical (ap (λ (k : Col). k.kind) c.self.view_is ∙ h))
]

pub returns-clause-few : goal.returns-clause-few
returns-clause-few c =
    let self = c.args.self.now in
    let bs = (view_array_at self.view_arrays c.args.chunk).buffers in
    let vs = c.views.result.now in
    let column = subst IsColumn c.self.view_is c.self.invariant.1 in
    let is : get_or self.chunks c.args.chunk [] ≡ text_values self.kind (texts bs vs) = search rules in
    few_in_chunk self c.args.chunk (length vs) (text_values self.kind (texts bs vs)) column c.requires.chunk is (length-text_values self.kind bs vs)

pub returns-clause-utf8 : goal.returns-clause-utf8
returns-clause-utf8 c = λ string_kind.
    let self = c.args.self.now in
    let ts = texts (view_array_at self.view_arrays c.args.chunk).buffers c.views.result.now in
    let column = subst IsColumn c.self.view_is c.self.invariant.1 in
    let is : get_or self.chunks c.args.chunk [] ≡ text_values self.kind ts = search rules in
    utf8_in_chunk self c.args.chunk ts column c.requires.chunk (is ∙ ap (λ t. text_values t ts) string_kind)
