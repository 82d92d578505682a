use Rattle.std.proofs.Common.{sym, ◌≡◌, refl, subst}
use Rattle.std.specs.Prelude.{OnOk}
use Rattle.tb_frame.specs.Promise.Table.{plain_column}
use Rattle.tb_json.proofs.Runs.{behind_last, column_text}
use Rattle.tb_json.proofs.write_tables.push_column.Goals as goal

pub returns : goal.returns
returns c =
    let full = c.text.inside.full in
    subst (λ b. OnOk c.close_full.result (c.close_full.new.self ≡ b))
    (column_text (plain_column c.args.column.now) _ _ _ _ _
    (behind_last full _ _ _ _ c.in_ok-push_heading.ensures (sym c.text.view_is))
    (behind_last full _ _ _ _ c.in_ok-push_str.ensures.bytes refl)
    c.in_ok-push_array.ensures
    (behind_last c.text-2.inside.full _ _ _ _ c.in_ok-push_str-2.ensures.bytes (sym c.text-2.view_is)))
    c.close_full.ensures
