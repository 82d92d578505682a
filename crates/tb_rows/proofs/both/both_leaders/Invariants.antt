use Rattle.std.proofs.Common.{◌≡◌, length}
use Rattle.tb_rows.specs.Both.{AreLedBelow}
use Rattle.tb_rows.proofs.both.both_leaders.Given as goal

abbrev pub invariant-loop-group : goal.invariant-loop-group
invariant-loop-group l = record {
  room : length l.kept.items ≡ length l.first.firsts.items;
  led : AreLedBelow l.first.numbers.items l.second.numbers.items l.group l.kept.items l.leaders.items;
}
