use Rattle.std.proofs.Common.{◌≡◌, ◌∙◌, ◌<◌, ◌==◌, ap, get_or, length, map, sym, arith}
use Rattle.tb_value.specs.Promise.Pairs.{row_numbers}
use Rattle.tb_rows.specs.Promise.Rows.{first_rows, group_of}
use Rattle.std.specs.Prelude.{if◌then◌else◌}
use Rattle.tb_rows.specs.Coded.{leader, led_alike}
use Rattle.tb_rows.proofs.Agreeing.{led_equiv}
use Rattle.tb_rows.proofs.Numbered.{firsts-step, firsts_few, leads_before, numbers-step, numbers_long}
use Rattle.tb_rows.proofs.grouping.led_numbers.Goals as goal

pub number_of-number-requires-clause-few : goal.number_of-number-requires-clause-few
number_of-number-requires-clause-few c =
    let so_far = c.loop-place.invariant in
    let few = firsts_few (led_alike c.args.leaders.now) (led_equiv c.args.leaders.now) c.loop-place.place c.loop-place.firsts.items c.loop-place.numbers.items so_far.firsts so_far.numbers in
    omega (arith, few, ap length c.as_slice.ensures.value, c.requires.few)

pub number_of-number-requires-clause-there : goal.number_of-number-requires-clause-there
number_of-number-requires-clause-there c = λ e.
    let so_far = c.loop-place.invariant in
    let n = length c.args.leaders.now in
    let m = c.loop-place.place in
    let low : m < n = omega arith in
    let is : get_or c.args.leaders.now m 0 ≡ leader (led_alike c.args.leaders.now) n m = c.requires.leaders.each m low in
    let before = leads_before (led_alike c.args.leaders.now) (led_equiv c.args.leaders.now) n m low (ap (λ l. l == m) (sym is) ∙ e) in
    omega (arith, is, before, ap length c.as_slice-in-loop-place.ensures.value, numbers_long (led_alike c.args.leaders.now) (led_equiv c.args.leaders.now) m c.loop-place.firsts.items c.loop-place.numbers.items so_far.firsts so_far.numbers)

pub loop-place-preserved : goal.loop-place-preserved
loop-place-preserved c =
    let test = led_alike c.args.leaders.now in
    let same = led_equiv c.args.leaders.now in
    let n = length c.args.leaders.now in
    let so_far = c.loop-place.invariant in
    let m = c.loop-place.place in
    let l = get_or c.args.leaders.now m 0 in
    let low : m < n = omega arith in
    let is : l ≡ leader test n m = c.requires.leaders.each m low in
    let told : (l == m) ≡ (leader test n m == m) = ap (λ k. k == m) is in
    let firsts_are = c.as_slice.ensures.value in
    let numbers_are = c.as_slice-in-loop-place.ensures.value in
    let number : c.number_of-number.result ≡ (if l == m then length c.loop-place.firsts.items else get_or c.loop-place.numbers.items (leader test n m) 0)
    = c.number_of-number.ensures ∙ (λ t. if l == m then length (firsts_are t) else get_or (numbers_are t) (is t) 0) in
    record {
      firsts = firsts-step test same n m low c.loop-place.firsts.items _ (l == m) told c.in_ok-push_first.ensures so_far.firsts;
      numbers = numbers-step test same n m low c.loop-place.firsts.items c.loop-place.numbers.items _ (l == m) c.number_of-number.result told number
          c.in_ok-push.ensures.items so_far.firsts so_far.numbers;
    }

pub returns-clause-firsts : goal.returns-clause-firsts
returns-clause-firsts c =
    let done : c.loop-place.place ≡ length c.args.leaders.now = omega arith in
    c.loop-place.invariant.firsts ∙ ap (first_rows (led_alike c.args.leaders.now)) done

pub returns-clause-numbers : goal.returns-clause-numbers
returns-clause-numbers c =
    let done : c.loop-place.place ≡ length c.args.leaders.now = omega arith in
    c.loop-place.invariant.numbers ∙ (λ t. map (group_of (led_alike c.args.leaders.now) (done t)) (row_numbers (done t)))
