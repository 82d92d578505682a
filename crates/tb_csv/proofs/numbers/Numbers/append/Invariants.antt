use Rattle.std.proofs.Common.{◌≡◌, ◌++◌, take}
use Rattle.tb_csv.specs.Numbers.{numbers_in}
use Rattle.tb_csv.proofs.numbers.Numbers.append.Given as goal

abbrev pub invariant-loop-row : goal.invariant-loop-row
invariant-loop-row l = numbers_in l.self ≡ numbers_in l.initial.self ++ take l.row (numbers_in l.other)
