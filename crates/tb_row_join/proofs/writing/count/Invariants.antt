use Rattle.std.proofs.Common.{◌≡◌, ◌+◌, ◌*◌, ◌≤◌, length, take}
use Rattle.tb_row_join.specs.Lists.{concatenated}
use Rattle.tb_row_join.proofs.writing.count.Given as goal

abbrev pub invariant-loop-list : goal.invariant-loop-list
invariant-loop-list l = record {
  count : l.count ≡ length (concatenated (take l.list-index l.lists)) + length l.behind;
  few : l.count ≤ l.list-index * 4294967294 + 4294967294;
}
