use Rattle.std.proofs.Common.{◌+◌, ◌*◌, map}
use Rattle.std.specs.List.{All}
use Rattle.serde_json.specs.Data.{depth, items_depth}
use Rattle.serde_json.specs.View.{items_of}
use Rattle.tb_tree.specs.View.{view, item_view, listed}
use Rattle.tb_value.specs.See.{datum}
use Rattle.tb_value.specs.SeeKind.{kind_of, part}
use Rattle.tb_value.specs.Promise.Typed.{HasType}
use Rattle.tb_json.specs.Promise.Cells.{cell_in}
use Rattle.tb_json.proofs.LentValues.{ItemsWalk}
use Rattle.tb_json.proofs.ValueWalks.{FieldsSoFar, TypedSoFar}
use Rattle.tb_json.proofs.read_any_cells.+any_cells.Given as goal

abbrev pub invariant-each_value-loop-i : goal.invariant-each_value-loop-i
invariant-each_value-loop-i l = record {
  walked : ItemsWalk (cell_in (kind_of l.dtype)) l.items (map datum l.values.items) l.i;
  typed : All (HasType (kind_of l.dtype)) (map datum l.values.items);
}

abbrev pub invariant-row_of-loop-i : goal.invariant-row_of-loop-i
invariant-row_of-loop-i l = record {
  read : FieldsSoFar (map part l.members) (listed l.items) (map datum l.values.items) l.i;
  typed : TypedSoFar (map part l.members) (map datum l.values.items) l.i;
}

abbrev pub decreases-value_of : goal.decreases-value_of
decreases-value_of l = 4 * depth (view l.value.now)

abbrev pub decreases-array_of : goal.decreases-array_of
decreases-array_of l = 4 * items_depth (items_of (listed l.items)) + 3

abbrev pub decreases-each_value : goal.decreases-each_value
decreases-each_value l = 4 * items_depth (items_of (listed l.items)) + 2

abbrev pub decreases-row_of : goal.decreases-row_of
decreases-row_of l = 4 * items_depth (items_of (listed l.items)) + 2

abbrev pub decreases-item_of : goal.decreases-item_of
decreases-item_of l = 4 * depth (item_view l.item) + 1
