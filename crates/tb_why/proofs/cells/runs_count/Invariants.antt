use Rattle.std.proofs.Common.{◌≡◌, ◌*◌, ◌≤◌, map, take, sum_by}
use Rattle.tb_tree.specs.View.{listed}
use Rattle.tb_why.specs.Columns.{times_at}
use Rattle.tb_why.proofs.cells.runs_count.Given as goal

abbrev pub invariant-loop-i : goal.invariant-loop-i
invariant-loop-i l = record {
  counted : l.count ≡ sum_by times_at (take l.i (listed l.runs));
  low : l.count ≤ 18446744073709551616 * l.i;
}
