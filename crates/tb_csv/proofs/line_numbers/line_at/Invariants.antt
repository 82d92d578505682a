use Rattle.std.proofs.Common.{◌≡◌, ◌≤◌, ◌+◌}
use Rattle.tb_csv.specs.Promise.LineNumbers.{line_at}
use Rattle.tb_csv.proofs.line_numbers.line_at.Given as goal

abbrev pub invariant-loop-i : goal.invariant-loop-i
invariant-loop-i l = (l.line ≡ line_at l.text l.i) × (l.line ≤ l.i + 1)
