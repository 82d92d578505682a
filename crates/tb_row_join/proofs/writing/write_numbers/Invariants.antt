use Rattle.std.proofs.Common.{◌≡◌, ◌++◌, length, take, drop}
use Rattle.tb_row_join.specs.Lists.{repeated}
use Rattle.tb_row_join.proofs.writing.write_numbers.Given as goal

-- the numbers of the lists so far stand at the front
abbrev pub invariant-loop-row : goal.invariant-loop-row
invariant-loop-row l = record {
  at : l.at ≡ length (repeated 0 (take l.row l.lists));
  room : l.room ≡ repeated 0 (take l.row l.lists) ++ drop (length (repeated 0 (take l.row l.lists))) l.initial.room;
}
