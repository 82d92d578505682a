use Rattle.std.proofs.Common.{◌≡◌, false, map, drop, string_bytes}
use Rattle.tb_json.specs.Written.{with_items}
use Rattle.tb_delta_request.specs.Promise.Texts.{id_data}
use Rattle.tb_delta_request.proofs.texts.push_ids.Given as goal

-- what is written, and what is left
abbrev pub invariant-loop-id : goal.invariant-loop-id
invariant-loop-id l = with_items (string_bytes l.text, l.later) (drop l.id-index (map id_data l.ids)) ≡ with_items (string_bytes l.initial.text, false) (map id_data l.ids)
