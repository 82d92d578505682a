use Rattle.std.proofs.Common.{◌∙◌, List, ℕ, ap, length, subst, sym}
use Rattle.tb_rows.specs.Coded.{same_code, AreAsLed, AreLeaders}
use Rattle.tb_rows.specs.Names.{name_of, AreNamed}
use Rattle.tb_rows.proofs.ByCode.{are_leaders}
use Rattle.tb_rows.proofs.by_code.told_leaders.Goals as goal

pub are_as_led-requires-clause-named : goal.are_as_led-requires-clause-named
are_as_led-requires-clause-named g c =
    let led = rw c.in-Some.is at c.in_ok-leaders.ensures in
    subst (λ (n : ℕ). AreNamed c.args.names n) (sym (ap length c.deref.ensures.value ∙ led.count)) c.requires.named

pub are_as_led-requires-clause-led : goal.are_as_led-requires-clause-led
are_as_led-requires-clause-led g c =
    let led = rw c.in-Some.is at c.in_ok-leaders.ensures in
    let test = same_code (g.V.RowValues.columns c.args.rows.now) (name_of c.args.names) in
    subst (λ (ls : List ℕ). AreLeaders test (length ls) ls) (sym c.deref.ensures.value)
    (subst (λ (n : ℕ). AreLeaders test n c.in-Some.leaders.items) (sym led.count) led)

pub returns-then-are_as_led : goal.returns-then-are_as_led
returns-then-are_as_led g c =
    let cs = g.V.RowValues.columns c.args.rows.now in
    let name = name_of c.args.names in
    let leaders = c.in-Some.leaders.items in
    let led = rw c.in-Some.is at c.in_ok-leaders.ensures in
    let as_led = subst (λ (ls : List ℕ). AreAsLed cs name ls (length ls)) c.deref.ensures.value (c.are_as_led.ensures c.if-are_as_led.true) in
    are_leaders cs name c.args.len leaders led (subst (λ (n : ℕ). AreAsLed cs name leaders n) led.count as_led)
