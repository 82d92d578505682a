-- Dates as texts, YYYY-MM-DD.
use Rattle.std.specs.Prelude.{ℕ, zero, suc, ℤ, pos, ◌+◌, ◌-◌, ◌*◌, ◌/◌, ◌%◌, ◌==◌, ◌&&◌, ◌-ℤ◌, nat_le, int_le, int_lt, unsigned_abs, Bool, true, false, List, [], ◌∷◌, ◌++◌, drop, length, slice_index_or, take, Option, Some, None, if◌then◌else◌}
use Rattle.std.specs.List.{fold, list_all}
use Rattle.std.specs.Fmt.{signed_decimal}
use Rattle.tb_value.specs.Promise.Kind.{Kind}
use Rattle.tb_value.specs.Promise.Kind as kind
use Rattle.tb_label.specs.Promise.Numerals.{is_digit}
use Rattle.jiff_core.specs.Calendar.{days_from_civil, days_in_month}

-- the number that decimal digits are
abbrev pub number_in : List ℕ → Option ℕ
number_in s = if list_all is_digit s then Some (fold (λ n c. 10 * n + (c - 48)) 0 s) else None

-- the calendar has this month and day in the year
abbrev pub is_civil : ℕ → ℕ → ℕ → Bool
is_civil y m d = nat_le 1 m && nat_le m 12 && nat_le 1 d && nat_le d (days_in_month (pos y) m)

-- the number of the day since 1970-01-01, if the calendar has it
abbrev pub day_in : Option ℕ → Option ℕ → Option ℕ → Option ℤ
day_in (Some y) (Some m) (Some d) = if is_civil y m d
    then Some (days_from_civil (pos y) m d)
    else None
day_in _ _ _ = None

-- ten bytes with hyphens behind the year and the month
abbrev pub is_shaped : List ℕ → Bool
is_shaped s = (length s == 10) && (slice_index_or s 4 0 == 45) && (slice_index_or s 7 0 == 45)

-- the day that a text is
abbrev pub date_in : List ℕ → Option ℤ
date_in s = if is_shaped s
    then day_in (number_in (take 4 s)) (number_in (take 2 (drop 5 s))) (number_in (drop 8 s))
    else None

-- from 0000-01-01 to 9999-12-31
abbrev pub has_text : ℤ → Bool
has_text z = int_le (days_from_civil (pos 0) 1 1) z && int_lt z (days_from_civil (pos 10000) 1 1)

-- the first number from here on that passes, or the last of so many more
unfoldable pub first_that : (ℕ → Bool) → ℕ → ℕ → ℕ
first_that p from zero = from
first_that p from (suc more) = if p from then from else first_that p (from + 1) more

-- the year of a day: the first that ends behind it
abbrev pub year_of : ℤ → ℕ
year_of z = first_that (λ y. int_lt z (days_from_civil (pos (y + 1)) 1 1)) 0 9999

-- the month in its year: the first that ends behind it
abbrev pub month_of : ℤ → ℕ
month_of z = first_that (λ m. int_lt z (days_from_civil (pos (year_of z)) (m + 1) 1)) 1 11

-- the day in its month
abbrev pub day_of : ℤ → ℕ
day_of z = unsigned_abs (z -ℤ days_from_civil (pos (year_of z)) (month_of z) 1) + 1

abbrev pub two_digits : ℕ → List ℕ
two_digits n = (48 + n / 10) ∷ (48 + n % 10) ∷ []

abbrev pub civil_text : ℕ → ℕ → ℕ → List ℕ
civil_text y m d = two_digits (y / 100) ++ two_digits (y % 100) ++ 45 ∷ [] ++ two_digits m ++ 45
    ∷ [] ++ two_digits d

-- the text of a day that has one
abbrev pub date_text : ℤ → List ℕ
date_text z = civil_text (year_of z) (month_of z) (day_of z)

-- the type is that of days
abbrev pub is_date : Kind → Bool
is_date kind.date = true
is_date _ = false

-- a day of the years 0 to 9999 is written as its date, and each other number by its digits
abbrev pub number_text : Bool → ℤ → List ℕ
number_text is_day z = if is_day && has_text z then date_text z else signed_decimal z
