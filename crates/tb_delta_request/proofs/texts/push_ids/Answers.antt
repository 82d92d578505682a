use Rattle.std.proofs.Common.{◌<◌, ℕ, length, get_or, map, ap, sym, arith}
use Rattle.std.proofs.lemmas.List.{get_or-map, length-map}
use Rattle.tb_json.proofs.Runs.{item_step, items_end}
use Rattle.tb_delta_request.specs.Promise.Texts.{id_data}
use Rattle.tb_delta_request.proofs.texts.push_ids.Goals as goal

pub loop-id-preserved : goal.loop-id-preserved
loop-id-preserved c =
    let ids = c.args.ids.now in
    let i = c.loop-id.id-index in
    let x : ℕ = get_or ids i 0 in
    let within : i < length ids = omega arith in
    item_step (map id_data ids) i (id_data x) _ _ _ _ _ (rw length-map within) (sym (get_or-map id_data ids i 0 (id_data x) within)) c.in_ok-push_comma.ensures c.in_ok-push_id.ensures c.loop-id.invariant

pub returns : goal.returns
returns c = ap (λ s. s.0) (items_end (map id_data c.args.ids.now) c.loop-id.id-index _ _ (rw length-map (omega arith)) c.loop-id.invariant)
