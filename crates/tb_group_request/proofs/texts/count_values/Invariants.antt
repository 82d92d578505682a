use Rattle.std.proofs.Common.{◌≡◌, map, take}
use Rattle.serde_json.specs.View.{view}
use Rattle.tb_group_request.specs.Promise.Texts.{count_data}
use Rattle.tb_group_request.proofs.texts.count_values.Given as goal

abbrev pub invariant-loop-count : goal.invariant-loop-count
invariant-loop-count l = map view l.values.items ≡ map count_data (take l.count-index l.counts)
