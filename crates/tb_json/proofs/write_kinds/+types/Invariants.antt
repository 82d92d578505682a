use Rattle.std.proofs.Common.{◌≡◌, ◌+◌, ◌*◌, map, take}
use Rattle.serde_json.specs.View.{view}
use Rattle.tb_value.specs.Promise.Kind.{weight, weights, parts_of}
use Rattle.tb_value.specs.SeeKind.{kind_of, part, parts}
use Rattle.tb_json.proofs.Fields.{field_data}
use Rattle.tb_json.proofs.write_kinds.+types.Given as goal

abbrev pub decreases-type_value : goal.decreases-type_value
decreases-type_value l = 2 * weight (kind_of l.dtype.now)

abbrev pub decreases-fields_value : goal.decreases-fields_value
decreases-fields_value l = 2 * weights (parts_of (parts l.fields.now)) + 1

abbrev pub invariant-fields_value-loop-field : goal.invariant-fields_value-loop-field
invariant-fields_value-loop-field l = map view l.values.items ≡ map field_data (map part (take l.field-index l.listed))
