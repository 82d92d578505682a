-- Days, from their texts.
use Rattle.std.proofs.Common.{◌≡◌, ℕ, zero, suc, ◌<◌, ◌≤◌, ◌+◌, ◌&&◌, Bool, true, false, Some, refl, sym, ap, subst, arith, ◌∙◌, ℤ, pos, negsuc, ◌-ℤ◌, ◌+ℤ◌, ◌≤ℤ◌, ◌<ℤ◌, unsigned_abs, add-one, true≢false}
use Rattle.std.specs.Prelude.{int_lt, int_le}
use Rattle.std.proofs.lemmas.Int.{by_lt_z}
use Rattle.jiff_core.specs.Date.{epoch_day}
use Rattle.jiff_core.specs.declared.civil.date.Date.{Date}
use Rattle.jiff_core.proofs.DateLemmas.{civil, epoch_day_injective}
use Rattle.jiff_core.specs.Calendar.{IsEpochDay, day_count, days_from_civil, days_in_month}
use Rattle.jiff_core.proofs.CalendarLemmas.{days_from_civil-day_count, day_count-next_month, day_count-next_year, day_count-day, day_count-day_of_year, day_count-end, day_count-later_year, day_count-lt_year, day_count-year_bounds, day_count_bounds, days_of_months_all, days_in_month_bounds}
use Rattle.jiff_core.proofs.SignedLemmas.{signed_arith}
use Rattle.tb_date.specs.Promise.Dates.{civil_text, date_in, date_text, day_in, day_of, has_text, month_of, year_of}
use Rattle.tb_date.proofs.CivilDays.{is_civil_of}
use Rattle.tb_date.proofs.DateDigits.{four_back, two_back}
use Rattle.tb_date.proofs.FirstFound.{first_is}

-- a civil date is read back from its text
pub civil_back : (y m d : ℕ) → y < 10000 → m < 100 → d < 100 → date_in (civil_text y m d) ≡ day_in (Some y) (Some m) (Some d)
civil_back y m d ly lm ld = rw (four_back y ly, two_back m lm, two_back d ld) refl

below : (a b : ℤ) → int_lt a b ≡ true → a <ℤ b
below a b h = omega (arith, signed_arith)

not_below : (a b : ℤ) → int_lt a b ≡ false → b ≤ℤ a
not_below a b h = omega (arith, signed_arith)

year_ends : (y : ℕ) → days_from_civil (pos y) 13 1 ≡ days_from_civil (pos (y + 1)) 1 1
year_ends y =
    let next = day_count-next_year (pos y) (pos (y + 1)) (omega (arith, signed_arith)) (omega (arith, signed_arith)) in
    let same : day_count (pos y) 13 1 ≡ day_count (pos (y + 1)) 1 1 = omega (arith, next, day_count-day_of_year (pos y) 13 1 (omega arith), days_of_months_all (pos y)) in
    omega (arith, signed_arith, days_from_civil-day_count (pos y) 13 1, days_from_civil-day_count (pos (y + 1)) 1 1, same)

-- the year, the month and the day of a day are in the calendar
pub record IsSplit (z : ℤ) (y m d : ℕ) : Type 0 where
  pub year_in : y < 10000
  pub month_low : 1 ≤ m
  pub month_high : m ≤ 12
  pub day_low : 1 ≤ d
  pub day_high : d ≤ days_in_month (pos y) m
  pub is : days_from_civil (pos y) m d ≡ z

year_begins : (z : ℤ) (y : ℕ) → days_from_civil (pos 0) 1 1 ≤ℤ z → ((j : ℕ) → 0 ≤ j → j < y → int_lt z (days_from_civil (pos (j + 1)) 1 1) ≡ false) → days_from_civil (pos y) 1 1 ≤ℤ z
year_begins z zero low fails = low
year_begins z (suc y) low fails = subst (λ n. days_from_civil (pos n) 1 1 ≤ℤ z) (add-one y) (not_below z (days_from_civil (pos (y + 1)) 1 1) (fails y (omega arith) (omega arith)))

month_begins : (z : ℤ) (y m : ℕ) → 1 ≤ m → days_from_civil (pos y) 1 1 ≤ℤ z → ((j : ℕ) → 1 ≤ j → j < m → int_lt z (days_from_civil (pos y) (j + 1) 1) ≡ false) → days_from_civil (pos y) m 1 ≤ℤ z
month_begins z y zero low begins fails = absurd (omega (arith, low))
month_begins z y (suc zero) low begins fails = begins
month_begins z y (suc (suc m)) low begins fails = subst (λ n. days_from_civil (pos y) n 1 ≤ℤ z) (add-one (suc m)) (not_below z (days_from_civil (pos y) (suc m + 1) 1) (fails (suc m) (omega arith) (omega arith)))

is_below : (a b : ℤ) (t : Bool) → int_lt a b ≡ t → a <ℤ b → int_lt a b ≡ true
is_below a b true e h = e
is_below a b false e h = absurd (omega (arith, signed_arith, not_below a b e, h))

within : (z : ℤ) → has_text z ≡ true → (days_from_civil (pos 0) 1 1 ≤ℤ z) × (int_lt z (days_from_civil (pos 10000) 1 1) ≡ true)
within z h = by_tests (int_le (days_from_civil (pos 0) 1 1) z) (int_lt z (days_from_civil (pos 10000) 1 1)) refl h
  where
    low : int_le (days_from_civil (pos 0) 1 1) z ≡ true → days_from_civil (pos 0) 1 1 ≤ℤ z
    low e = omega (arith, signed_arith, e)

    by_tests : (b c : Bool) → int_le (days_from_civil (pos 0) 1 1) z ≡ b → (b && c) ≡ true → (days_from_civil (pos 0) 1 1 ≤ℤ z) × (c ≡ true)
    by_tests true true e h = (low e, refl)
    by_tests true false e h = absurd (true≢false (sym h))
    by_tests false c e h = absurd (true≢false (sym h))

find_year : (z : ℤ) → has_text z ≡ true → (year_of z < 10000) × (days_from_civil (pos (year_of z)) 1 1 ≤ℤ z) × (z <ℤ days_from_civil (pos (year_of z + 1)) 1 1)
find_year z h =
    let w = within z h in
    let first = first_is (λ y. int_lt z (days_from_civil (pos (y + 1)) 1 1)) 9999 0 9999 refl w.1 in
    (omega (arith, first.high), year_begins z (year_of z) w.0 first.fails, below z _ first.passes)

find_month : (z : ℤ) → days_from_civil (pos (year_of z)) 1 1 ≤ℤ z → z <ℤ days_from_civil (pos (year_of z + 1)) 1 1
    → (1 ≤ month_of z) × (month_of z ≤ 12) × (days_from_civil (pos (year_of z)) (month_of z) 1 ≤ℤ z) × (z <ℤ days_from_civil (pos (year_of z)) (month_of z + 1) 1)
find_month z low high =
    let last : int_lt z (days_from_civil (pos (year_of z)) 13 1) ≡ true = rw (year_ends (year_of z)) (is_below z _ _ refl high) in
    let first = first_is (λ m. int_lt z (days_from_civil (pos (year_of z)) (m + 1) 1)) 11 1 12 refl last in
    (first.low, first.high, month_begins z (year_of z) (month_of z) first.low low first.fails, below z _ first.passes)

abs_is : (z : ℤ) → pos 0 ≤ℤ z → pos (unsigned_abs z) ≡ z
abs_is (pos n) h = refl
abs_is (negsuc n) h = absurd (omega (arith, signed_arith, h))

day_is : (z : ℤ) (y m : ℕ) → 1 ≤ m → m ≤ 12 → y < 10000 → days_from_civil (pos y) m 1 ≤ℤ z → z <ℤ days_from_civil (pos y) (m + 1) 1
    → IsSplit z y m (unsigned_abs (z -ℤ days_from_civil (pos y) m 1) + 1)
day_is z y m first last small begins ends =
    let gone = unsigned_abs (z -ℤ days_from_civil (pos y) m 1) in
    let counted : days_from_civil (pos y) m 1 +ℤ pos gone ≡ z = omega (arith, signed_arith, begins, abs_is (z -ℤ days_from_civil (pos y) m 1) (omega (arith, signed_arith, begins))) in
    let next = day_count-next_month (pos y) m first in
    let one = days_from_civil-day_count (pos y) m 1 in
    let after = days_from_civil-day_count (pos y) (m + 1) 1 in
    let same = days_from_civil-day_count (pos y) m (gone + 1) in
    let moved = day_count-day (pos y) m (gone + 1) 1 (omega arith) (omega arith) in
    record {
      year_in = small;
      month_low = first;
      month_high = last;
      day_low = omega arith;
      day_high = omega (arith, signed_arith, ends, counted, next, one, after);
      is = omega (arith, signed_arith, counted, one, same, moved);
    }

pub split : (z : ℤ) → has_text z ≡ true → IsSplit z (year_of z) (month_of z) (day_of z)
split z h =
    let (small, low, high) = find_year z h in
    let (first, last, begins, ends) = find_month z low high in
    day_is z (year_of z) (month_of z) first last small begins ends

-- a day is read back from its text
pub date_back : (z : ℤ) → has_text z ≡ true → date_in (date_text z) ≡ Some z
date_back z h =
    let s = split z h in
    let bound = (days_in_month_bounds (pos (year_of z)) (month_of z)).0 in
    let there = is_civil_of (year_of z) (month_of z) (day_of z) s.month_low s.month_high s.day_low s.day_high in
    civil_back (year_of z) (month_of z) (day_of z) s.year_in (omega (arith, s.month_high)) (omega (arith, bound, s.day_high)) ∙ rw there (ap Some s.is)

-- a day of a year from 0 on has the parts of its date
pub parts_of : (d : Date) → has_text (epoch_day d) ≡ true
    → (d.year ≡ pos (year_of (epoch_day d))) × (d.month ≡ month_of (epoch_day d)) × (d.day ≡ day_of (epoch_day d))
parts_of d h =
    let s = split (epoch_day d) h in
    let other : Date = record {
      year = pos (year_of (epoch_day d));
      month = month_of (epoch_day d);
      day = day_of (epoch_day d);
      year_in = (omega (arith, signed_arith, s.year_in), omega (arith, signed_arith, s.year_in));
      month_in = (s.month_low, s.month_high);
      day_in = (s.day_low, s.day_high);
    } in
    epoch_day_injective d other (sym s.is)

no_text : (z : ℤ) (b : Bool) → has_text z ≡ b → ((days_from_civil (pos 0) 1 1 ≤ℤ z) × (z <ℤ days_from_civil (pos 10000) 1 1) → ⊥) → has_text z ≡ false
no_text z true e h = let w = within z e in absurd (h (w.0, below z _ w.1))
no_text z false e h = e

some_text : (z : ℤ) (b : Bool) → has_text z ≡ b → days_from_civil (pos 0) 1 1 ≤ℤ z → z <ℤ days_from_civil (pos 10000) 1 1 → has_text z ≡ true
some_text z b e low high = rw (at_most (days_from_civil (pos 0) 1 1) z (int_le (days_from_civil (pos 0) 1 1) z) refl low, is_below z (days_from_civil (pos 10000) 1 1) _ refl high) refl
  where
    at_most : (a b : ℤ) (t : Bool) → int_le a b ≡ t → a ≤ℤ b → int_le a b ≡ true
    at_most a b true e h = e
    at_most a b false e h = absurd (omega (arith, signed_arith, e, h))

-- only days of years that the calendar has are written as dates
pub outside : (z : ℤ) → (IsEpochDay z → ⊥) → has_text z ≡ false
outside z h =
    let first = day_count-year_bounds (pos 0) (omega (arith, signed_arith), omega (arith, signed_arith)) in
    let zero = days_from_civil-day_count (pos 0) 1 1 in
    let last = days_from_civil-day_count (pos 10000) 1 1 in
    no_text z (has_text z) refl (λ w. h (omega (arith, signed_arith, w.0, first, zero), omega (arith, signed_arith, w.1, last, day_count-end)))

pub early : (d : Date) → d.year <ℤ pos 0 → has_text (epoch_day d) ≡ false
early d h =
    let less = day_count-lt_year d.year d.month d.day (pos 0) 1 1 (civil d) (omega arith) h in
    let zero = days_from_civil-day_count (pos 0) 1 1 in
    let own = days_from_civil-day_count d.year d.month d.day in
    no_text (epoch_day d) (has_text (epoch_day d)) refl (λ w. absurd (omega (arith, signed_arith, w.0, less, zero, own)))

pub late : (d : Date) → pos 0 ≤ℤ d.year → has_text (epoch_day d) ≡ true
late d h =
    let zero = days_from_civil-day_count (pos 0) 1 1 in
    let end = days_from_civil-day_count (pos 10000) 1 1 in
    let own = days_from_civil-day_count d.year d.month d.day in
    let bounds = day_count_bounds d.year d.month d.day (civil d) in
    let of_year = day_count-day_of_year d.year d.month d.day d.day_in.0 in
    let low : day_count (pos 0) 1 1 ≤ day_count d.year d.month d.day = by_lt_z (pos 0) d.year
    (λ lt. omega (arith, of_year, day_count-later_year (pos 0) d.year (omega (arith, signed_arith)) lt))
    (λ le. let e : d.year ≡ pos 0 = omega (arith, signed_arith, h, le) in omega (arith, of_year, d.day_in.0, ap (λ y. day_count y 1 1) e)) in
    some_text (epoch_day d) (has_text (epoch_day d)) refl (omega (arith, signed_arith, low, zero, own)) (omega (arith, signed_arith, bounds, end, own, day_count-end))
