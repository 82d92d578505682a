-- The texts of days are texts.
use Rattle.std.proofs.Common.{◌≡◌, ℕ, ℤ, pos, ◌<◌, ◌+◌, ◌/◌, ◌%◌, ◌∷◌, [], List, true, arith}
use Rattle.std.specs.Str.{IsAscii, IsUtf8}
use Rattle.std.proofs.lemmas.Str.{IsUtf8-from_ascii}
use Rattle.std.proofs.lemmas.Str.Ascii.{IsAscii-cons}
use Rattle.jiff_core.proofs.CalendarLemmas.{days_in_month_bounds}
use Rattle.tb_date.specs.Promise.Dates.{civil_text, date_text, day_of, has_text, month_of, year_of}
use Rattle.tb_date.proofs.DatesBack.{split}

ascii_four : (a b c d : ℕ) (rest : List ℕ) → a < 128 → b < 128 → c < 128 → d < 128 → IsAscii rest → IsAscii (a ∷ b ∷ c ∷ d ∷ rest)
ascii_four a b c d rest la lb lc ld h =
    IsAscii-cons a (b ∷ c ∷ d ∷ rest) la (IsAscii-cons b (c ∷ d ∷ rest) lb (IsAscii-cons c (d ∷ rest) lc (IsAscii-cons d rest ld h)))

ascii_six : (a b c d e f : ℕ) → a < 128 → b < 128 → c < 128 → d < 128 → e < 128 → f < 128 → IsAscii (a ∷ b ∷ c ∷ d ∷ e ∷ f ∷ [])
ascii_six a b c d e f la lb lc ld le lf =
    ascii_four a b c d (e ∷ f ∷ []) la lb lc ld (IsAscii-cons e (f ∷ []) le (IsAscii-cons f [] lf (λ i. omega arith)))

-- what stands behind the year
abbrev behind_year : ℕ → ℕ → List ℕ
behind_year m d = 45 ∷ (48 + m / 10) ∷ (48 + m % 10) ∷ 45 ∷ (48 + d / 10) ∷ (48 + d % 10) ∷ []

civil_is_text : (y m d : ℕ) → y < 10000 → m < 100 → d < 100 → IsUtf8 (civil_text y m d)
civil_is_text y m d ly lm ld =
    let behind = ascii_six 45 (48 + m / 10) (48 + m % 10) 45 (48 + d / 10) (48 + d % 10) (omega arith) (omega arith) (omega arith) (omega arith) (omega arith) (omega arith) in
    let whole = ascii_four (48 + y / 100 / 10) (48 + y / 100 % 10) (48 + y % 100 / 10) (48 + y % 100 % 10) (behind_year m d) (omega arith) (omega arith) (omega arith) (omega arith) behind in
    IsUtf8-from_ascii (civil_text y m d) whole

pub date_is_text : (z : ℤ) → has_text z ≡ true → IsUtf8 (date_text z)
date_is_text z e =
    let s = split z e in
    let bound = (days_in_month_bounds (pos (year_of z)) (month_of z)).0 in
    civil_is_text (year_of z) (month_of z) (day_of z) s.year_in (omega (arith, s.month_high)) (omega (arith, bound, s.day_high))
