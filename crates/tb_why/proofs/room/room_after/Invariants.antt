use Rattle.std.proofs.Common.{◌≡◌, ◌-◌, map, take, sum_by}
use Rattle.tb_tree.specs.View.{listed}
use Rattle.tb_request.specs.declared.shape.Format.TheVariants.{Runs}
use Rattle.tb_why.specs.Columns.{count_at}
use Rattle.tb_why.proofs.room.room_after.Given as goal

abbrev pub invariant-loop-i : goal.invariant-loop-i
invariant-loop-i l = l.left ≡ l.room - sum_by (count_at Runs) (take l.i (listed l.columns))
