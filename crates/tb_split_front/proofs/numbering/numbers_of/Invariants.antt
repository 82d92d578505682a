use Rattle.std.proofs.Common.{◌≡◌}
use Rattle.tb_value.specs.Promise.Pairs.{row_numbers}
use Rattle.tb_split_front.proofs.numbering.numbers_of.Given as goal

abbrev pub invariant-loop-row : goal.invariant-loop-row
invariant-loop-row l = l.numbers.items ≡ row_numbers l.row
