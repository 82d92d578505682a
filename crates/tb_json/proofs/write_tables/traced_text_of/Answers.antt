use Rattle.std.proofs.Common.{sym, ◌≡◌, ◌++◌, ap, ◌∙◌, codes, refl, subst}
use Rattle.std.specs.Prelude.{IfOk}
use Rattle.serde_json.specs.View.{view}
use Rattle.tb_frame.specs.Promise.Table.{table_of}
use Rattle.tb_json.proofs.Runs.{behind_last, traced_text}
use Rattle.tb_json.proofs.write_tables.traced_text_of.Goals as goal

pub returns : goal.returns
returns c =
    let full = c.text.inside.full in
    subst (λ b. IfOk c.close.result (λ t. t ≡ b))
    (traced_text (table_of c.args.table) (view c.args.trace.now) _ _ _
    (behind_last full _ _ _ _ c.in_ok-push_str.ensures.bytes (sym c.text.view_is) ∙ ap (λ x. x ++ codes ",\"trace\":") c.in_ok-text.ensures)
    (behind_last full _ _ _ _ c.in_ok-push_value.ensures refl)
    (behind_last full _ _ _ _ c.in_ok-push_str-2.ensures.bytes refl))
    c.close.ensures
