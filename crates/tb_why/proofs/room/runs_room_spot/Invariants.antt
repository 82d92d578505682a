use Rattle.tb_tree.specs.View.{listed}
use Rattle.tb_why.specs.Columns.{run_room_spot, times_at}
use Rattle.tb_why.proofs.Walks.{RoomWalk}
use Rattle.tb_why.proofs.room.runs_room_spot.Given as goal

abbrev pub invariant-loop-i : goal.invariant-loop-i
invariant-loop-i l = RoomWalk times_at run_room_spot l.room (listed l.runs) l.i l.left
