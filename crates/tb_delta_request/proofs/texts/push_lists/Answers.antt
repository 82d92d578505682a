use Rattle.std.proofs.Common.{◌<◌, ◌++◌, length, map, ap, ◌∙◌, sym, arith, string_bytes}
use Rattle.std.proofs.lemmas.List.{get_or-map, length-map}
use Rattle.serde_json.specs.Written.{compact_text}
use Rattle.tb_json.proofs.Runs.{item_step, items_end}
use Rattle.tb_delta.specs.Running.{lists_of}
use Rattle.tb_delta_request.specs.Promise.Texts.{ids_data}
use Rattle.tb_delta_request.proofs.texts.push_lists.Goals as goal

pub loop-ids-preserved : goal.loop-ids-preserved
loop-ids-preserved c =
    let lists = c.args.lists.now in
    let i = c.loop-ids.ids-index in
    let x = c.ids-item.result in
    let within : i < length lists = omega arith in
    let is = ap ids_data (ap (λ v. v.items) c.ids-item.is ∙ sym (get_or-map (λ v. v.items) lists i x x.items within)) ∙ sym (get_or-map ids_data (lists_of lists) i x.items (ids_data x.items) (rw length-map within)) in
    item_step (map ids_data (lists_of lists)) i (ids_data x.items) _ _ _ _ _ (rw (length-map, length-map) within) is c.in_ok-push_comma.ensures
    (c.in_ok-push_list.ensures ∙ ap (λ l. string_bytes c.push_comma.new.text ++ compact_text (ids_data l)) c.deref.ensures.value) c.loop-ids.invariant

pub returns : goal.returns
returns c = ap (λ s. s.0) (items_end (map ids_data (lists_of c.args.lists.now)) c.loop-ids.ids-index _ _ (rw (length-map, length-map) (omega arith)) c.loop-ids.invariant)
