use Rattle.std.proofs.Common.{◌≡◌, ◌∙◌, List, ap, subst}
use Rattle.std.specs.Prelude.{IfOk}
use Rattle.tb_chunk.specs.Promise.Col.{Col}
use Rattle.tb_frame.specs.Frame.{frame_refusal}
use Rattle.tb_frame.specs.Promise.Table.{table_of}
use Rattle.tb_join.specs.AnswerColumns.{side_by_side}
use Rattle.tb_join.proofs.Finishing.{settled}
use Rattle.tb_dispatch.specs.Standing.{suffix_or}
use Rattle.tb_dispatch.proofs.Level.{beside_refusal}
use Rattle.tb_dispatch.proofs.names._finish_join.Goals as goal

pub returns-clause-settles : goal.returns-clause-settles
returns-clause-settles c =
    let is : c.in_ok-columns.columns.items ≡ side_by_side (suffix_or c.args.suffix) c.args.df_left c.args.df_right = c.in_ok-columns.ensures ∙ (λ t. side_by_side (c.suffix_text-suffix.ensures t) (c.into_columns-left.ensures t) (c.into_columns-right.ensures t)) in
    settled c.new.result _ _ (ap (λ (cs : List Col). frame_refusal (table_of cs)) is ∙ beside_refusal (suffix_or c.args.suffix) c.args.df_left c.args.df_right c.requires c.get_columns-left.ensures.table c.get_columns-right.ensures.table) c.new.ensures.settles

pub returns-clause-columns : goal.returns-clause-columns
returns-clause-columns c =
    let is : c.in_ok-columns.columns.items ≡ side_by_side (suffix_or c.args.suffix) c.args.df_left c.args.df_right = c.in_ok-columns.ensures ∙ (λ t. side_by_side (c.suffix_text-suffix.ensures t) (c.into_columns-left.ensures t) (c.into_columns-right.ensures t)) in
    subst (λ (cs : List Col). IfOk c.new.result (λ t. t ≡ cs)) is c.new.ensures.columns
