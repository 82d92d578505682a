use Rattle.std.proofs.Common.{◌≡◌, ap, ◌∙◌, subst}
use Rattle.std.specs.Prelude.{IfOk}
use Rattle.serde_json.specs.Data.{Data}
use Rattle.serde_json.specs.Written.{has_float}
use Rattle.tb_frame.specs.Promise.Table.{table_of}
use Rattle.tb_json.specs.Promise.Text.{traced_text_of}
use Rattle.tb_group_request.proofs.CountTexts.{no_float}
use Rattle.tb_group_request.proofs.texts.text_with_parts.Goals as goal

pub traced_text_of-requires : goal.traced_text_of-requires
traced_text_of-requires c = ap has_float c.in_ok-parts.ensures ∙ no_float c.args.parts.now

pub returns : goal.returns
returns c =
    subst (λ (d : Data). IfOk c.traced_text_of.result (λ t. t ≡ traced_text_of (table_of c.args.table) d)) c.in_ok-parts.ensures c.traced_text_of.ensures
