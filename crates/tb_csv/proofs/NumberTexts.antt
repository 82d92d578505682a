-- The digits of a number stand in no quotes.
use Rattle.std.proofs.Common.{◌≡◌, ◌≤◌, ◌<◌, ◌==◌, ◌∷◌, ◌∙◌, [], ℕ, ℤ, pos, negsuc, suc, List, Some, true, false, length, refl, sym, ap, arith, ne_eqb, true≢false, FitsSigned}
use Rattle.std.specs.Int.{w128}
use Rattle.std.specs.Fmt.{decimal, signed_decimal}
use Rattle.std.specs.List.{list_any}
use Rattle.std.specs.Str.Parse.{AllDigits}
use Rattle.std.proofs.lemmas.Bool.Decides.{nat_tests}
use Rattle.std.proofs.lemmas.Fmt.{decimal_is_IsNumeral_wide}
use Rattle.std.proofs.lemmas.Str.Parse.{digit_from_value}
use Rattle.csv.specs.Writing.{needs_byte}
use Rattle.tb_label.specs.Promise.Numerals.{is_digit}
use Rattle.tb_csv.specs.Promise.Texts.{field_text, style}
use Rattle.tb_csv.specs.Texts.{stands_in_numbers}
use Rattle.tb_csv.proofs.Truth.{or_parts}

digit_true : (c : ℕ) → 48 ≤ c → c ≤ 57 → is_digit c ≡ true
digit_true c low high = grind (arith, nat_tests)

plain_byte : (s c : ℕ) → is_digit s ≡ false → 48 ≤ c → c ≤ 57 → needs_byte (style s) c ≡ false
plain_byte s c apart low high =
    rw (ne_eqb c s (λ e. true≢false (sym (digit_true c low high) ∙ ap is_digit e ∙ apart)), ne_eqb c 34 (λ e. omega (arith, low, high, e)), ne_eqb c 13 (λ e. omega (arith, low, high, e)), ne_eqb c 10 (λ e. omega (arith, low, high, e))) refl

plain_digits : (s : ℕ) → is_digit s ≡ false → (ds : List ℕ) → AllDigits 10 ds → list_any (needs_byte (style s)) ds ≡ false
plain_digits s apart [] d = refl
plain_digits s apart (c ∷ cs) d =
    let r = digit_from_value c d.0 in
    rw (plain_byte s c apart (omega (arith, r)) (omega (arith, r)), plain_digits s apart cs d.1) refl

plain_minus : (s : ℕ) → (s == 45) ≡ false → needs_byte (style s) 45 ≡ false
plain_minus s apart = rw (ne_eqb 45 s (λ e. true≢false (ap (λ (n : ℕ). n == 45) e ∙ apart))) refl

plain_field : (s : ℕ) (xs : List ℕ) → 0 < length xs → list_any (needs_byte (style s)) xs ≡ false → field_text s (Some xs) ≡ xs
plain_field s [] some plain = absurd (omega (arith, some))
plain_field s (c ∷ cs) some plain = rw plain refl

-- a number is its digits, where the separator can't be one of them
pub plain_number : (s : ℕ) (z : ℤ) → FitsSigned w128 z → stands_in_numbers s ≡ false → field_text s (Some (signed_decimal z)) ≡ signed_decimal z
plain_number s (pos n) fits apart =
    let k = decimal_is_IsNumeral_wide n (omega (arith, fits.sfits)) in
    plain_field s (decimal n) k.0.0 (plain_digits s (or_parts (s == 45) (is_digit s) apart).1 (decimal n) k.0.1)
plain_number s (negsuc n) fits apart =
    let parts = or_parts (s == 45) (is_digit s) apart in
    let k = decimal_is_IsNumeral_wide (suc n) (omega (arith, fits.sfits)) in
    plain_field s (45 ∷ decimal (suc n)) (omega arith) (rw (plain_minus s parts.0, plain_digits s parts.1 (decimal (suc n)) k.0.1) refl)
