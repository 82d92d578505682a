use Rattle.std.proofs.Common.{sym, ◌≡◌, ◌++◌, false, map, refl, ap, ◌∙◌, string_bytes}
use Rattle.tb_value.specs.SeeKind.{kind_of}
use Rattle.tb_chunk.specs.Promise.Col.{concatenation, values}
use Rattle.tb_chunk.specs.Seen.{chunk_lists}
use Rattle.tb_json.specs.Promise.Text.{value_data}
use Rattle.tb_json.specs.Written.{with_items}
use Rattle.tb_json.proofs.Runs.{array_text, behind_last}
use Rattle.tb_json.proofs.write_tables.push_array.Goals as goal

pub returns : goal.returns
returns c =
    let ds = map (value_data c.args.column.now.kind) (values c.args.column.now) in
    let same : map (value_data (kind_of c.dtype.result.now)) (concatenation (chunk_lists c.chunks.result.now)) ≡ ds = rw (c.dtype.ensures, c.chunks.ensures.lists, c.as_materialized_series-series.ensures) refl in
    array_text ds _ _ _ _ _ refl (behind_last c.text.inside.full _ _ _ _ c.in_ok-push_str.ensures.bytes (sym c.text.view_is))
    (c.in_ok-push_values.ensures ∙ ap (λ es. (with_items (c.text.inside.full ++ string_bytes c.push_str.new.self, false) es).0) same)
    (behind_last c.text-2.inside.full _ _ _ _ c.in_ok-push_str-2.ensures.bytes (sym c.text-2.view_is))
