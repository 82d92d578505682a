use Rattle.std.proofs.Common.{◌≡◌, drop}
use Rattle.tb_label.specs.Promise.Numerals.{are_digits}
use Rattle.tb_label.proofs.numerals.are_digits.Given as goal

abbrev pub invariant-loop-b : goal.invariant-loop-b
invariant-loop-b l = are_digits l.bytes ≡ are_digits (drop l.b-index l.bytes)
