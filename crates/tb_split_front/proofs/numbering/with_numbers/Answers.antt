use Rattle.std.proofs.Common.{◌≡◌, ◌∙◌, ◌∷◌, Option, ap, subst}
use Rattle.tb_value.specs.Refusals.{Settles}
use Rattle.tb_value.specs.declared.error.PolarsError.{PolarsError}
use Rattle.tb_frame.specs.Frame.{frame_refusal}
use Rattle.tb_frame.specs.Promise.Table.{height, table_of}
use Rattle.tb_split_front.specs.Promise.Parts.{number_column}
use Rattle.tb_split_front.proofs.Behind.{behind_numbers, unused_name}
use Rattle.tb_split_front.proofs.numbering.with_numbers.Goals as goal

pub only_memory-requires : goal.only_memory-requires
only_memory-requires c =
    let n = c.args.name.now in
    let t = table_of c.args.table in
    let columns : table_of c.in_ok-columns.columns.items ≡ number_column n (height t) ∷ t =
    ap table_of c.in_ok-columns.ensures ∙ ap (λ k. k ∷ t) (c.in_ok-numbers.ensures ∙ ap (number_column n) c.height.ensures.height) in
    subst (λ (o : Option PolarsError). Settles c.new.result o)
    (ap frame_refusal columns ∙ behind_numbers n t c.in_ok-check_new.ensures.table (unused_name n t c.in_ok-check_new.ensures.settles)) c.new.ensures.settles
