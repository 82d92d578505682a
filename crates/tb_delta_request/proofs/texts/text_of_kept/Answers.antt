use Rattle.std.proofs.Common.{◌++◌, ap, ◌∙◌, codes, refl, sym, append_assoc}
use Rattle.serde_json.specs.Written.{compact_text}
use Rattle.tb_frame.specs.Promise.Table.{table_of}
use Rattle.tb_json.specs.Written.{open_table}
use Rattle.tb_delta.specs.Running.{lists_of}
use Rattle.tb_delta_request.specs.Promise.Texts.{lists_data}
use Rattle.tb_delta_request.proofs.KeptTexts.{kept_parts}
use Rattle.tb_delta_request.proofs.texts.text_of_kept.Goals as goal

pub returns : goal.returns
returns c =
    let opened = open_table (table_of c.args.table) in
    let key = codes ",\"partners\":" in
    let told = compact_text (lists_data (lists_of c.args.partners.now)) in
    let end = codes "}\n" in
    kept_parts (table_of c.args.table) (lists_of c.args.partners.now) (opened ++ key) ((opened ++ key) ++ told) _ refl refl
    (c.in_ok-push.ensures.grown
    ∙ ap (λ l. l ++ c.into_bytes.result.items) c.in_ok-text.ensures
    ∙ ap (λ l. opened ++ l) (ap (λ v. v.items) c.into_bytes.ensures.value ∙ c.in_ok-push_str.ensures.bytes ∙ ap (λ l. l ++ end) (c.in_ok-push_partners.ensures ∙ ap (λ l. l ++ told) c.in_ok-told.ensures.ok))
    ∙ sym (append_assoc opened (key ++ told) end)
    ∙ ap (λ l. l ++ end) (sym (append_assoc opened key told)))
