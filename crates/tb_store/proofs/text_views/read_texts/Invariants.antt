use Rattle.std.proofs.Common.{take}
use Rattle.std.specs.List.{All}
use Rattle.tb_value.specs.Promise.Datum.{binary}
use Rattle.tb_value.specs.Promise.Kind as kind
use Rattle.tb_value.specs.Promise.Typed.{HasType}
use Rattle.tb_chunk.specs.Chunk.{or_null}
use Rattle.tb_chunk.specs.View.{row_text}
use Rattle.tb_store.proofs.text_views.read_texts.Given as goal

abbrev pub invariant-loop-view : goal.invariant-loop-view
invariant-loop-view l = All (λ o. HasType kind.binary (or_null binary (row_text l.buffers o))) (take l.view-index l.views)
