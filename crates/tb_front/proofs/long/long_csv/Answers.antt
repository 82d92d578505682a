use Rattle.std.proofs.Common.{◌≡◌, ◌∙◌, ◌∷◌, [], IfOk, Option, ap, length, refl, subst, sym}
use Rattle.tb_frame.specs.Promise.Table.{Table, table_of}
use Rattle.tb_csv.specs.Promise.Texts.{csv_text}
use Rattle.tb_unpivot.specs.Blocks.{block_table}
use Rattle.tb_unpivot.specs.Promise.Unpivot.{unpivot_refusal, unpivot_table}
use Rattle.tb_unpivot.proofs.LongParts.{whole_table}
use Rattle.tb_calls.specs.Promise.Asked.{long_of}
use Rattle.tb_front.specs.declared.fault.FrontFault.{FrontFault}
use Rattle.tb_front.specs.declared.options.TextForm.TheVariants.{Csv}
use Rattle.tb_front.specs.Promise.Faults.{Settles, refusal_fault, writing_fault}
use Rattle.tb_front.proofs.Outcomes.{refusal_settles}
use Rattle.tb_front.proofs.Steps.{first_of_one, passes}
use Rattle.tb_front.proofs.long.long_csv.Goals as goal

pub returns-in-Err-clause-settles : goal.returns-in-Err-clause-settles
returns-in-Err-clause-settles g c =
    let q = long_of c.args.call (table_of c.args.table.now) in
    rw c.refused.ensures (refusal_settles Csv c.args.separator c.in-Err.error (unpivot_refusal q) (writing_fault Csv (unpivot_table q) ∷ []) c.in-Err.ensures.settles)

pub returns-in-Ok-clause-settles : goal.returns-in-Ok-clause-settles
returns-in-Ok-clause-settles g c =
    let q = long_of c.args.call (table_of c.args.table.now) in
    let b = c.in-Ok.blocks in
    let whole : block_table b 0 (length b.on) ≡ unpivot_table q = whole_table q b (length b.on) c.in-Ok.ensures.parts refl in
    passes c.text_of_blocks.result (refusal_fault (unpivot_refusal q)) (writing_fault Csv (unpivot_table q) ∷ []) (ap refusal_fault c.in-Ok.ensures.settles)
    (subst (λ (f : Option FrontFault). Settles c.text_of_blocks.result f) (ap (writing_fault Csv) whole ∙ sym (first_of_one (writing_fault Csv (unpivot_table q)))) c.text_of_blocks.ensures.settles)

pub returns-in-Ok-clause-text : goal.returns-in-Ok-clause-text
returns-in-Ok-clause-text g c =
    let q = long_of c.args.call (table_of c.args.table.now) in
    let b = c.in-Ok.blocks in
    let whole : block_table b 0 (length b.on) ≡ unpivot_table q = whole_table q b (length b.on) c.in-Ok.ensures.parts refl in
    subst (λ (t : Table). IfOk c.text_of_blocks.result (λ s. s ≡ csv_text c.args.separator t)) whole c.text_of_blocks.ensures.text
