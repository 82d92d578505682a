use Rattle.tb_tree.specs.View.{listed}
use Rattle.tb_why.specs.Requests.{entry_room_spot, entry_rows}
use Rattle.tb_why.proofs.Walks.{RoomWalk}
use Rattle.tb_why.proofs.requests.entries_room_spot.Given as goal

abbrev pub invariant-loop-i : goal.invariant-loop-i
invariant-loop-i l = RoomWalk entry_rows entry_room_spot l.room (listed l.entries) l.i l.left
