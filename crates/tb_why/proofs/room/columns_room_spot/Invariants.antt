use Rattle.tb_tree.specs.View.{listed}
use Rattle.tb_request.specs.declared.shape.Format.TheVariants.{Runs}
use Rattle.tb_why.specs.Columns.{column_room_spot, count_at}
use Rattle.tb_why.proofs.Walks.{RoomWalk}
use Rattle.tb_why.proofs.room.columns_room_spot.Given as goal

abbrev pub invariant-loop-i : goal.invariant-loop-i
invariant-loop-i l = RoomWalk (count_at Runs) column_room_spot l.room (listed l.columns) l.i l.left
