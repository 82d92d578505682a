use Rattle.std.proofs.Common.{◌≡◌, ◌∙◌, List, Option, ap, subst}
use Rattle.tb_value.specs.Refusals.{Settles}
use Rattle.tb_value.specs.declared.error.PolarsError.{PolarsError}
use Rattle.tb_chunk.specs.Promise.Col.{Col}
use Rattle.tb_frame.specs.Frame.{frame_refusal}
use Rattle.tb_frame.specs.Promise.Table.{table_of}
use Rattle.tb_delta_front.specs.Deltas.{changes_of}
use Rattle.tb_delta_front.specs.Promise.Deltas.{changes_table}
use Rattle.tb_delta_front.proofs.ChangesTable.{no_refusal, through}
use Rattle.tb_delta_front.proofs.changes.changes_table.Goals as goal

pub only_memory-requires : goal.only_memory-requires
only_memory-requires c =
    subst (λ (o : Option PolarsError). Settles c.new.result o) (ap frame_refusal c.in_ok-columns.ensures ∙ no_refusal (changes_of c.args.changes.now)) c.new.ensures.settles

pub returns : goal.returns
returns c =
    through (λ (t : List Col). t ≡ c.in_ok-columns.columns.items) (λ (t : List Col). table_of t ≡ changes_table (changes_of c.args.changes.now)) c.new.result c.only_memory.result c.only_memory.ensures.value c.new.ensures.columns
    (λ t e. ap table_of e ∙ c.in_ok-columns.ensures)
