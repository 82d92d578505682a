use Rattle.std.proofs.Common.{◌≡◌, map}
use Rattle.tb_value.specs.Promise.Pairs.{row_numbers}
use Rattle.tb_rows.specs.Coded.{led_alike}
use Rattle.tb_rows.specs.Promise.Rows.{first_rows, group_of}
use Rattle.tb_rows.proofs.grouping.led_numbers.Given as goal

-- the rows so far
abbrev pub invariant-loop-place : goal.invariant-loop-place
invariant-loop-place l = record {
  firsts : l.firsts.items ≡ first_rows (led_alike l.leaders) l.place;
  numbers : l.numbers.items ≡ map (group_of (led_alike l.leaders) l.place) (row_numbers l.place);
}
