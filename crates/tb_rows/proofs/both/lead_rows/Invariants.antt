use Rattle.tb_rows.proofs.Pairs.{Leading}
use Rattle.tb_rows.proofs.both.lead_rows.Given as goal

abbrev pub invariant-loop-at : goal.invariant-loop-at
invariant-loop-at l = Leading l.numbers l.second.numbers.items l.group l.at l.initial.kept.items l.kept.items l.leaders.items
