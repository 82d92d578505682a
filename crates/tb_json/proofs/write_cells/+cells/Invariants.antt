use Rattle.std.proofs.Common.{◌≡◌, ◌+◌, ◌*◌, map, take}
use Rattle.serde_json.specs.View.{view}
use Rattle.tb_value.specs.Promise.Datum.{weight, weights, items_of}
use Rattle.tb_value.specs.See.{datum, lent_value}
use Rattle.tb_value.specs.SeeKind.{kind_of, part}
use Rattle.tb_json.specs.Promise.Text.{value_data}
use Rattle.tb_json.proofs.Nested.{RowSoFar}
use Rattle.tb_json.proofs.write_cells.+cells.Given as goal

abbrev pub decreases-cell_value : goal.decreases-cell_value
decreases-cell_value l = 3 * weight (lent_value l.value)

abbrev pub decreases-list_values : goal.decreases-list_values
decreases-list_values l = 3 * weights (items_of l.values.now) + 1

abbrev pub decreases-struct_value : goal.decreases-struct_value
decreases-struct_value l = 3 * weights (items_of l.values.now) + 2

abbrev pub decreases-struct_values : goal.decreases-struct_values
decreases-struct_values l = 3 * weights (items_of l.values.now) + 1

abbrev pub invariant-list_values-loop-value : goal.invariant-list_values-loop-value
invariant-list_values-loop-value l = map view l.items.items ≡ map (value_data (kind_of l.dtype)) (map datum (take l.value-index l.listed))

abbrev pub invariant-struct_values-loop-i : goal.invariant-struct_values-loop-i
invariant-struct_values-loop-i l = RowSoFar (map part l.members) (map datum l.listed) (map view l.items.items) l.i
