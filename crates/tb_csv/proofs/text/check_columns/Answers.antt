use Rattle.std.proofs.Common.{◌∙◌, [], Some, ap, sym, refl, inr}
use Rattle.std.specs.Prelude.{option_map}
use Rattle.tb_value.specs.Promise.Names.{Name}
use Rattle.tb_chunk.specs.Promise.Col.{Col}
use Rattle.tb_csv.specs.declared.fault.CsvFault.TheVariants.{NoText}
use Rattle.tb_csv.proofs.Causes.{none_later, then_fault}
use Rattle.tb_csv.proofs.TextWalks.{columns_there, no_text_of}
use Rattle.tb_csv.proofs.text.check_columns.Goals as goal

pub returns-in_ok-copy-in-Some : goal.returns-in_ok-copy-in-Some
returns-in_ok-copy-in-Some c =
    let cs = c.args.columns.now in
    let named = ap (λ (n : Name). Some (NoText n)) (c.in_ok-copy-in-Some.ensures ∙ c.name.ensures) in
    inr (then_fault _ _ _ (columns_there cs c.if-is_empty.ensures) (no_text_of cs ∙ sym (ap (option_map (λ (k : Col). NoText k.name)) c.in-Some.ensures) ∙ sym named))

pub returns-in-None : goal.returns-in-None
returns-in-None c =
    let cs = c.args.columns.now in
    none_later _ _ (columns_there cs c.if-is_empty.ensures) (none_later _ [] (no_text_of cs ∙ sym (ap (option_map (λ (k : Col). NoText k.name)) c.in-None.ensures)) refl)
