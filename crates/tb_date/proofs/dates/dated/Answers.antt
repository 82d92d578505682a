use Rattle.std.proofs.Common.{rules, ◌≡◌, ◌∙◌, ℤ, FitsSigned, to_z, of_z, w64, true, false, arith, sym, subst, true≢false}
use Rattle.std.specs.Int.{w128}
use Rattle.jiff_core.specs.Calendar.{IsEpochDay}
use Rattle.jiff_core.specs.Date.{epoch_day}
use Rattle.jiff_core.proofs.SignedLemmas.{signed_arith}
use Rattle.tb_date.specs.Promise.Dates.{has_text}
use Rattle.tb_date.proofs.DatesBack.{early, late, outside}
use Rattle.tb_date.proofs.dates.dated.Goals as goal

fits : (z : ℤ) → IsEpochDay z → FitsSigned w64 z
fits z h = omega (arith, signed_arith, h.0, h.1)

pub returns-in_default : goal.returns-in_default
returns-in_default c =
    let whole : to_z w128 (of_z w128 c.args.number) ≡ c.args.number = search rules in
    outside c.args.number (λ h. c.in_default.ensures (subst (FitsSigned w64) (sym whole) (fits c.args.number h)))

pub returns-then-date-lt0 : goal.returns-then-date-lt0
returns-then-date-lt0 c =
    let day : c.in-Ok.day ≡ c.args.number = search rules in
    let is : epoch_day c.in-Ok-from_unix_epoch_day.date ≡ c.in-Ok.day = search rules in
    subst (λ (z : ℤ). has_text z ≡ false) (is ∙ day) (early c.in-Ok-from_unix_epoch_day.date (omega (arith, signed_arith, c.if-date-lt0.true)))

pub returns-else-date-lt0 : goal.returns-else-date-lt0
returns-else-date-lt0 c =
    let day : c.in-Ok.day ≡ c.args.number = search rules in
    let is : epoch_day c.in-Ok-from_unix_epoch_day.date ≡ c.in-Ok.day = search rules in
    (subst (λ (z : ℤ). has_text z ≡ true) (is ∙ day) (late c.in-Ok-from_unix_epoch_day.date (omega (arith, signed_arith, c.if-date-lt0.false))), is ∙ day)

pub returns-in-Err : goal.returns-in-Err
returns-in-Err c =
    let day : to_z w64 (of_z w64 c.in-Ok.day) ≡ c.args.number = search rules in
    outside c.args.number (λ h. true≢false (sym (c.in-Err.ensures.succeeds.1 (subst IsEpochDay (sym day) h))))
