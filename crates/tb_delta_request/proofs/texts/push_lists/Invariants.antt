use Rattle.std.proofs.Common.{◌≡◌, false, map, drop, string_bytes}
use Rattle.tb_json.specs.Written.{with_items}
use Rattle.tb_delta.specs.Running.{lists_of}
use Rattle.tb_delta_request.specs.Promise.Texts.{ids_data}
use Rattle.tb_delta_request.proofs.texts.push_lists.Given as goal

-- what is written, and what is left
abbrev pub invariant-loop-ids : goal.invariant-loop-ids
invariant-loop-ids l = with_items (string_bytes l.text, l.later) (drop l.ids-index (map ids_data (lists_of l.lists))) ≡ with_items (string_bytes l.initial.text, false) (map ids_data (lists_of l.lists))
