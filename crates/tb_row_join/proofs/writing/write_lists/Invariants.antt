use Rattle.std.proofs.Common.{◌≡◌, ◌++◌, length, take, drop}
use Rattle.tb_row_join.specs.Lists.{concatenated}
use Rattle.tb_row_join.proofs.writing.write_lists.Given as goal

-- the lists so far stand at the front
abbrev pub invariant-loop-list : goal.invariant-loop-list
invariant-loop-list l = record {
  at : l.at ≡ length (concatenated (take l.list-index l.lists));
  room : l.room ≡ concatenated (take l.list-index l.lists) ++ drop (length (concatenated (take l.list-index l.lists))) l.initial.room;
}
