use Rattle.std.proofs.Common.{◌≡◌, ◌∙◌, ap, length, refl, sym}
use Rattle.std.proofs.lemmas.Result.{err_from_is_err_and}
use Rattle.tb_frame.specs.Promise.Table.{table_of}
use Rattle.tb_csv.specs.Promise.Texts.{csv_text}
use Rattle.tb_unpivot.specs.Blocks.{block_table}
use Rattle.tb_unpivot.proofs.LongParts.{whole_block}
use Rattle.tb_front.specs.Promise.Faults.{writing_fault}
use Rattle.tb_front.specs.declared.options.TextForm.TheVariants.{Csv}
use Rattle.tb_front.proofs.Dues.{cause_as}
use Rattle.tb_front.proofs.LongTexts.{blocks_text, blocks_written}
use Rattle.tb_front.proofs.long.text_of_blocks.Goals as goal

pub returns-in_err-text-clause-settles : goal.returns-in_err-text-clause-settles
returns-in_err-text-clause-settles g c =
    let b = c.args.blocks.now in
    let whole = block_table b 0 (length b.on) in
    let p = err_from_is_err_and c.from_residual-in_err-text.result c.from_residual-in_err-text.ensures.1 in
    let same : writing_fault Csv (table_of c.in_ok-block.field-0) ≡ writing_fault Csv whole =
    ap (writing_fault Csv) c.in_ok-block.ensures ∙ blocks_written c.args.separator b whole (whole_block b (length b.on) refl)
    in
    rw (p.1, p.2) (cause_as (writing_fault Csv whole) (writing_fault Csv (table_of c.in_ok-block.field-0)) c.in_err-text.field-0.0 (sym same) c.in_err-text.ensures.settles)

pub returns-clause-settles : goal.returns-clause-settles
returns-clause-settles g c =
    let b = c.args.blocks.now in
    let whole = block_table b 0 (length b.on) in
    let same : writing_fault Csv (table_of c.in_ok-block.field-0) ≡ writing_fault Csv whole =
    ap (writing_fault Csv) c.in_ok-block.ensures ∙ blocks_written c.args.separator b whole (whole_block b (length b.on) refl)
    in
    sym same ∙ c.in_ok-text.ensures.settles

pub returns-clause-text : goal.returns-clause-text
returns-clause-text g c =
    let b = c.args.blocks.now in
    blocks_text c.args.separator b (block_table b 0 (length b.on)) (whole_block b (length b.on) refl) _ _ (length b.on) refl
    (c.in_ok-text.ensures.text ∙ ap (csv_text c.args.separator) c.in_ok-block.ensures) c.in_ok-push_blocks.ensures
