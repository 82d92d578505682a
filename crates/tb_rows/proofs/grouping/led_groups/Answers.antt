use Rattle.std.proofs.Common.{ap, length, arith}
use Rattle.tb_rows.specs.Coded.{led_alike}
use Rattle.tb_rows.proofs.Agreeing.{led_equiv}
use Rattle.tb_rows.proofs.Numbered.{firsts_few, numbers_fit, numbers_long}
use Rattle.tb_rows.proofs.grouping.led_groups.Goals as goal

pub of_numbers-requires-clause-below : goal.of_numbers-requires-clause-below
of_numbers-requires-clause-below c =
    let ls = c.deref.result.now in
    let made = c.in_ok-firsts.ensures in
    numbers_fit (led_alike ls) (led_equiv ls) (length ls) c.in_ok-firsts.field-0.firsts.items c.in_ok-firsts.field-0.numbers.items made.firsts made.numbers

pub of_numbers-requires-clause-few : goal.of_numbers-requires-clause-few
of_numbers-requires-clause-few c =
    let ls = c.deref.result.now in
    let made = c.in_ok-firsts.ensures in
    let long = numbers_long (led_alike ls) (led_equiv ls) (length ls) c.in_ok-firsts.field-0.firsts.items c.in_ok-firsts.field-0.numbers.items made.firsts made.numbers in
    omega (arith, long, ap length c.deref.ensures.value, c.requires.few)

pub of_numbers-requires-clause-fewer : goal.of_numbers-requires-clause-fewer
of_numbers-requires-clause-fewer c =
    let ls = c.deref.result.now in
    let made = c.in_ok-firsts.ensures in
    let few = firsts_few (led_alike ls) (led_equiv ls) (length ls) c.in_ok-firsts.field-0.firsts.items c.in_ok-firsts.field-0.numbers.items made.firsts made.numbers in
    omega (arith, few, ap length c.deref.ensures.value, c.requires.few)
