use Rattle.std.proofs.Common.{◌∙◌, ap, map}
use Rattle.tb_value.specs.Promise.Datum.{binary}
use Rattle.tb_cell.specs.Shown.{or_null}
use Rattle.tb_view.specs.Promise.Layout.{text_view_array}
use Rattle.tb_chunk.proofs.Fresh.{texts_among}
use Rattle.tb_chunk.proofs.Rows.{all_binaries}
use Rattle.tb_chunk.proofs.owned_chunks.BinaryChunkChunk.from_values.Goals as goal

pub returns-clause-shown : goal.returns-clause-shown
returns-clause-shown c = ap (map (or_null binary)) c.in_ok-from_values.ensures.texts ∙ all_binaries c.args.values.now c.requires

pub returns-clause-views : goal.returns-clause-views
returns-clause-views c = c.in_ok-from_values.ensures.views ∙ ap (λ ts. (text_view_array ts).views) (texts_among c.args.values.now)

pub returns-clause-buffers : goal.returns-clause-buffers
returns-clause-buffers c = c.in_ok-from_values.ensures.buffers ∙ ap (λ ts. (text_view_array ts).buffers) (texts_among c.args.values.now)
