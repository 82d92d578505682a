use Rattle.std.proofs.Common.{◌<◌, length, map, sym, arith, get_or, ◌∙◌, refl}
use Rattle.std.proofs.lemmas.List.{get_or-map, length-map}
use Rattle.tb_value.specs.Promise.Datum.{null}
use Rattle.tb_value.specs.SeeKind.{kind_of}
use Rattle.tb_json.specs.Promise.Text.{value_data}
use Rattle.tb_json.proofs.Runs.{behind_last, item_step, items_end}
use Rattle.tb_json.proofs.write_tables.push_chunk.Goals as goal

pub push_cell-requires : goal.push_cell-requires
push_cell-requires g c = rw c.value.ensures.value (c.requires c.loop-row.row null (omega (arith, c.len-row-end.ensures)))

pub loop-row-preserved : goal.loop-row-preserved
loop-row-preserved g c =
    let f = value_data (kind_of c.args.dtype.now) in
    let xs = g.C.Chunk.shown c.args.chunk.now in
    let i = c.loop-row.row in
    let x = get_or xs i null in
    let full = c.text.inside.full in
    let within : i < length xs = omega (arith, c.len-row-end.ensures) in
    item_step (map f xs) i (f x) _ _ _ _ _ (rw length-map within) (sym (get_or-map f xs i null (f x) within))
    (behind_last full _ _ _ _ c.in_ok-push_comma.ensures (sym c.text.view_is))
    (c.in_ok-close_full.ensures ∙ behind_last full _ _ _ _ (rw c.value.ensures.value at c.in_ok-push_cell.ensures) refl) c.loop-row.invariant

pub returns : goal.returns
returns g c = items_end (map (value_data (kind_of c.args.dtype.now)) (g.C.Chunk.shown c.args.chunk.now)) c.loop-row.row _ _ (rw length-map (omega (arith, c.len-row-end.ensures))) c.loop-row.invariant
