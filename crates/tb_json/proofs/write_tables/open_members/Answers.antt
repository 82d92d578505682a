use Rattle.std.proofs.Common.{sym, ◌++◌, false, map, ap, ◌∙◌, refl, string_bytes}
use Rattle.serde_json.specs.Data.{number, unsigned}
use Rattle.serde_json.specs.Written.{compact_text}
use Rattle.tb_frame.specs.Promise.Table.{table_of}
use Rattle.tb_json.specs.Promise.Text.{column_data}
use Rattle.tb_json.specs.Written.{with_items}
use Rattle.tb_json.proofs.Runs.{behind_last, open_text}
use Rattle.tb_json.proofs.write_tables.open_members.Goals as goal

pub returns : goal.returns
returns c =
    let full = c.text.inside.full in
    let behind = c.text-2.inside.full in
    open_text (table_of c.args.table) _ _ _ _ _ c.in_ok-text.ensures
    (behind_last full _ _ _ _ c.in_ok-push_str.ensures.bytes (sym c.text.view_is))
    (c.in_ok-push_columns.ensures ∙ ap (λ cs. (with_items (full ++ string_bytes c.push_str.new.self, false) (map column_data (table_of cs))).0) c.into_columns.ensures)
    (behind_last behind _ _ _ _ c.in_ok-push_str-2.ensures.bytes (sym c.text-2.view_is))
    (behind_last behind _ _ _ _ c.in_ok-push_value.ensures refl
    ∙ ap (λ d. (behind ++ string_bytes c.push_str-2.new.self) ++ compact_text d) (c.from.ensures ∙ ap (λ n. number (unsigned n)) c.height-height.ensures.height))
