-- The calendar has a date.
use Rattle.std.proofs.Common.{◌≡◌, ℕ, ◌<◌, ◌≤◌, if◌then◌else◌, Bool, true, false, ℤ, pos, refl, arith, Some, None}
use Rattle.std.proofs.lemmas.Bool.Decides.{nat_tests}
use Rattle.std.proofs.lemmas.Int.{ints}
use Rattle.jiff_core.specs.Calendar.{IsDate, days_in_month, days_from_civil}
use Rattle.jiff_core.proofs.SignedLemmas.{signed_arith}
use Rattle.jiff_core.specs.Date.{epoch_day}
use Rattle.jiff_core.specs.declared.civil.date.Date.{Date}
use Rattle.tb_date.specs.Promise.Dates.{day_in, is_civil}

pub is_civil_of : (y m d : ℕ) → 1 ≤ m → m ≤ 12 → 1 ≤ d → d ≤ days_in_month (pos y) m → is_civil y m d ≡ true
is_civil_of y m d a b c e = grind (arith, nat_tests)

of_is_civil : (y m d : ℕ) → is_civil y m d ≡ true → (1 ≤ m) × (m ≤ 12) × (1 ≤ d) × (d ≤ days_in_month (pos y) m)
of_is_civil y m d h = grind (arith, nat_tests)

no_day : (b : Bool) (z : ℤ) → (b ≡ true → ⊥) → (if◌then◌else◌ b (Some z) None) ≡ None
no_day true z h = absurd (h refl)
no_day false z h = refl

pub day_of_no_date : (y m d : ℕ) → y < 10000 → (IsDate (pos y) (pos m) (pos d) → ⊥) → day_in (Some y) (Some m) (Some d) ≡ None
day_of_no_date y m d low h =
    no_day (is_civil y m d) (days_from_civil (pos y) m d) (λ e. let p = of_is_civil y m d e in
    h ((omega (arith, signed_arith), omega (arith, signed_arith)), (omega (arith, ints, p.0), omega (arith, ints, p.1)), (omega (arith, ints, p.2), omega (arith, ints, p.3))))

pub day_of : (date : Date) (y m d : ℕ) (r s : ℤ) → date.year ≡ pos y → date.month ≡ m → date.day ≡ d → r ≡ epoch_day date → s ≡ r → Some s ≡ day_in (Some y) (Some m) (Some d)
day_of date y m d r s year month day is back =
    let high : d ≤ days_in_month (pos y) m = rw (year, month, day) at date.day_in.1 in
    let e = is_civil_of y m d (omega (arith, date.month_in.0)) (omega (arith, date.month_in.1)) (omega (arith, date.day_in.0)) high in
    rw (e, back, is, year, month, day) refl
