use Rattle.std.proofs.Common.{◌+◌, ◌*◌, map}
use Rattle.serde_json.specs.Data.{depth, items_depth, members_depth}
use Rattle.serde_json.specs.View.{items_of}
use Rattle.tb_tree.specs.View.{view, item_view, listed, members_view}
use Rattle.tb_value.specs.SeeKind.{part}
use Rattle.tb_json.specs.Promise.Kinds.{part_in}
use Rattle.tb_json.proofs.LentValues.{ItemsWalk}
use Rattle.tb_json.proofs.read_kinds.+kinds.Given as goal

abbrev pub invariant-each_field-loop-i : goal.invariant-each_field-loop-i
invariant-each_field-loop-i l = ItemsWalk part_in l.items (map part l.fields.items) l.i

abbrev pub decreases-type_of : goal.decreases-type_of
decreases-type_of l = 5 * depth (view l.value.now)

abbrev pub decreases-members_type : goal.decreases-members_type
decreases-members_type l = 5 * members_depth (members_view l.members.now.entries) + 4

abbrev pub decreases-fields_of : goal.decreases-fields_of
decreases-fields_of l = 5 * depth (view l.value.now) + 3

abbrev pub decreases-each_field : goal.decreases-each_field
decreases-each_field l = 5 * items_depth (items_of (listed l.items)) + 2

abbrev pub decreases-field_of : goal.decreases-field_of
decreases-field_of l = 5 * depth (item_view l.item) + 1

abbrev pub decreases-members_field : goal.decreases-members_field
decreases-members_field l = 5 * members_depth (members_view l.members.now.entries) + 4
