use Rattle.std.proofs.Common.{◌∙◌, ap, map}
use Rattle.tb_value.specs.Promise.Datum.{string}
use Rattle.tb_cell.specs.Shown.{or_null}
use Rattle.tb_view.specs.Promise.Layout.{text_view_array}
use Rattle.tb_chunk.proofs.Fresh.{texts_among}
use Rattle.tb_chunk.proofs.Rows.{all_strings, all_utf8}
use Rattle.tb_chunk.proofs.chunk.StringChunkChunk.from_values.Goals as goal

pub invariant_of-result : goal.invariant_of-result
invariant_of-result c = record { utf8 = rw c.in_ok-from_values.ensures.texts (all_utf8 c.args.values.now c.requires) }

pub returns-clause-shown : goal.returns-clause-shown
returns-clause-shown c = ap (map (or_null string)) c.in_ok-from_values.ensures.texts ∙ all_strings c.args.values.now c.requires

pub returns-clause-views : goal.returns-clause-views
returns-clause-views c = c.in_ok-from_values.ensures.views ∙ ap (λ ts. (text_view_array ts).views) (texts_among c.args.values.now)

pub returns-clause-buffers : goal.returns-clause-buffers
returns-clause-buffers c = c.in_ok-from_values.ensures.buffers ∙ ap (λ ts. (text_view_array ts).buffers) (texts_among c.args.values.now)
