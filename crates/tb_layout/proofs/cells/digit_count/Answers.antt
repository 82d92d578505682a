use Rattle.std.proofs.Common.{◌∙◌, ap, arith, decimal, length, sym}
use Rattle.std.proofs.lemmas.Fmt.{decimal_digit}
use Rattle.tb_layout.proofs.Numbers.{digits_between}
use Rattle.tb_layout.proofs.cells.digit_count.Goals as goal

pub returns-in-Some : goal.returns-in-Some
returns-in-Some c = sym (digits_between c.args.number c.in-Some.power (omega arith) c.in-Some.ensures.power_le c.in-Some.ensures.next_power_gt)

pub returns-in-None : goal.returns-in-None
returns-in-None c = sym (ap (λ n. length (decimal n)) c.in-None.ensures.none ∙ ap length (decimal_digit 0 (omega arith)))
