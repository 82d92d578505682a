use Rattle.std.proofs.Common.{◌≡◌, ◌*◌, ◌≤◌, List, length, map, take, sum_by}
use Rattle.serde_json.specs.Data.{Data}
use Rattle.tb_tree.specs.View.{listed}
use Rattle.tb_why.specs.Columns.{items_of}
use Rattle.tb_why.proofs.cells.chunks_count.Given as goal

abbrev pub invariant-loop-i : goal.invariant-loop-i
invariant-loop-i l = record {
  counted : l.count ≡ sum_by (λ (c : List Data). length c) (map items_of (take l.i (listed l.chunks)));
  low : l.count ≤ 18446744073709551616 * l.i;
}
