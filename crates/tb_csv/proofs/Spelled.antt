-- Whole numbers, and the texts that they are written as.
use Rattle.std.proofs.Common.{◌≡◌, ◌<◌, ◌≤◌, ◌^◌, ◌∷◌, ◌∙◌, [], ℕ, ℤ, pos, negsuc, zero, suc, List, Bool, true, false, Some, None, length, get_or, drop, refl, sym, ap, arith, ◌&&◌, nat_le, neg_ℤ, codes, true≢false, FitsSigned, inl, inr, ne_eqb}
use Rattle.std.specs.Prelude.{if◌then◌else◌}
use Rattle.std.specs.Int.{w64}
use Rattle.std.specs.Fmt.{decimal, signed_decimal}
use Rattle.std.specs.Str.{bytes_eq}
use Rattle.std.specs.Str.Parse.{AllDigits, digits_value, signed_digits_value, starts_with_minus}
use Rattle.std.proofs.lemmas.Bool.{and_parts, or_cases, eqb-true}
use Rattle.std.proofs.lemmas.Bool.Decides.{nat_tests}
use Rattle.std.proofs.lemmas.Fmt.{decimal_digit, decimal-digits_value}
use Rattle.std.specs.Cmp.Lexicographic.{bytes_decides}
use Rattle.std.proofs.lemmas.Str.{digit_value_digit}
use Rattle.std.proofs.lemmas.Str.Parse.{digit_from_value, numerals_by_value, tells_digits}
use Rattle.tb_label.specs.Promise.Numerals.{are_digits, fits, is_digit, is_counting, is_whole, whole_in}

digit_range : (c : ℕ) → (nat_le 48 c && nat_le c 57) ≡ true → (48 ≤ c) × (c ≤ 57)
digit_range c is = let both = and_parts (nat_le 48 c) (nat_le c 57) is in (grind (arith, nat_tests), grind (arith, nat_tests))

lead_range : (c : ℕ) → nat_le 49 c ≡ true → nat_le c 57 ≡ true → (49 ≤ c) × (c ≤ 57)
lead_range c low high = (grind (arith, nat_tests), grind (arith, nat_tests))

digits_told : (ds : List ℕ) → are_digits ds ≡ true → AllDigits 10 ds
digits_told [] is = tt
digits_told (c ∷ cs) is =
    let both = and_parts (is_digit c) (are_digits cs) is in
    (omega (arith, digit_value_digit c (digit_range c both.0), digit_range c both.0), digits_told cs both.1)

record IsLed (ds : List ℕ) : Type 0 where
  digits : AllDigits 10 ds
  some : 0 < length ds
  lead : 48 < get_or ds 0 0

led : (ds : List ℕ) → is_counting ds ≡ true → IsLed ds
led [] is = absurd (true≢false (sym is))
led (c ∷ cs) is =
    let first = and_parts (nat_le 49 c && nat_le c 57) (are_digits cs) is in
    let both = and_parts (nat_le 49 c) (nat_le c 57) first.0 in
    let range = lead_range c both.0 both.1 in
    record {
      digits = (omega (arith, digit_value_digit c (omega (arith, range), range.1), range), digits_told cs first.1);
      some = omega arith;
      lead = omega (arith, range);
    }

written : (ds : List ℕ) → IsLed ds → digits_value 10 ds < 2 ^ 64 → decimal (digits_value 10 ds) ≡ ds
written ds h small = decimal-digits_value (numerals_by_value _ tells_digits) ds h.digits h.some (λ e. absurd (omega (arith, h.lead, e))) small

not_zero : (ds : List ℕ) → IsLed ds → digits_value 10 ds ≡ 0 → ⊥
not_zero ds h e =
    let is : decimal 0 ≡ ds = ap decimal (sym e) ∙ written ds h (omega (arith, e)) in
    let first : get_or ds 0 0 ≡ 48 = ap (λ l. get_or l 0 0) (sym is ∙ decimal_digit 0 (omega arith)) in
    omega (arith, first, h.lead)

value_of : (ds : List ℕ) → IsLed ds → signed_digits_value 10 ds ≡ pos (digits_value 10 ds)
value_of [] h = absurd (omega (arith, h.some))
value_of (c ∷ cs) h =
    let r = digit_from_value c h.digits.0 in
    rw (ne_eqb c 45 (λ e. omega (arith, r, e)), ne_eqb c 43 (λ e. omega (arith, r, e))) refl

plain_spelled : (ds : List ℕ) (z : ℤ) → IsLed ds → signed_digits_value 10 ds ≡ z → FitsSigned w64 z → signed_decimal z ≡ ds
plain_spelled ds (pos n) h value fit =
    let is : digits_value 10 ds ≡ n = cc (value_of ds h, value) in
    ap decimal (sym is) ∙ written ds h (omega (arith, is, fit.sfits))
plain_spelled ds (negsuc n) h value fit = cc (value_of ds h, value)

minus_spelled : (ds : List ℕ) (z : ℤ) (n : ℕ) → IsLed ds → digits_value 10 ds ≡ n → neg_ℤ (pos n) ≡ z → FitsSigned w64 z → signed_decimal z ≡ 45 ∷ ds
minus_spelled ds z zero h is value fit = absurd (not_zero ds h is)
minus_spelled ds (pos k) (suc n) h is value fit = cc value
minus_spelled ds (negsuc k) (suc n) h is value fit =
    let same : n ≡ k = cc value in
    ap (λ l. 45 ∷ l) (ap decimal (omega (arith, is, same)) ∙ written ds h (omega (arith, is, same, fit.sfits)))

kept : {A : Type 0} (b : Bool) (v z : A) → (if b then Some v else None) ≡ Some z → (b ≡ true) × (v ≡ z)
kept true v z e = (refl, cc e)
kept false v z e = cc e

by_sign : (s : List ℕ) (z : ℤ) (b : Bool) → starts_with_minus s ≡ b → (if b then is_counting (drop 1 s) else is_counting s) ≡ true → signed_digits_value 10 s ≡ z → FitsSigned w64 z → signed_decimal z ≡ s
by_sign [] z true minus counts value fit = absurd (true≢false (sym counts))
by_sign [] z false minus counts value fit = absurd (true≢false (sym counts))
by_sign (c ∷ cs) z true minus counts value fit =
    let is : c ≡ 45 = eqb-true c 45 minus in
    minus_spelled cs z (digits_value 10 cs) (led cs counts) refl (rw minus at value) fit ∙ ap (λ k. k ∷ cs) (sym is)
by_sign (c ∷ cs) z false minus counts value fit = plain_spelled (c ∷ cs) z (led (c ∷ cs) counts) value fit

zero_spelled : (s : List ℕ) (z : ℤ) → bytes_eq s (codes "0") ≡ true → signed_digits_value 10 s ≡ z → signed_decimal z ≡ s
zero_spelled s z same value =
    let is : s ≡ 48 ∷ [] = (bytes_decides s (codes "0")).0 same in
    let none : z ≡ pos 0 = sym value ∙ ap (signed_digits_value 10) is in
    ap signed_decimal none ∙ decimal_digit 0 (omega arith) ∙ sym is

-- a whole number is written as it was read
pub spelled : (s : List ℕ) (z : ℤ) → whole_in s ≡ Some z → FitsSigned w64 z → signed_decimal z ≡ s
unfolding whole_in
spelled s z read fit =
    let both = kept (is_whole s && fits (signed_digits_value 10 s)) (signed_digits_value 10 s) z read in
    let whole = and_parts (is_whole s) (fits (signed_digits_value 10 s)) both.0 in
    elim (or_cases (bytes_eq s (codes "0")) (if starts_with_minus s then is_counting (drop 1 s) else is_counting s) whole.0) [
      | inl same ↦ zero_spelled s z same both.1
      | inr counts ↦ by_sign s z (starts_with_minus s) refl counts both.1 fit
    ]
