-- Numbers, from their digits.
use Rattle.std.proofs.Common.{◌≡◌, ℕ, ◌<◌, ◌+◌, ◌-◌, ◌*◌, ◌/◌, ◌%◌, ◌∷◌, [], true, arith, Some, ap}
use Rattle.std.proofs.lemmas.Bool.Decides.{nat_tests}
use Rattle.tb_label.specs.Promise.Numerals.{is_digit}
use Rattle.tb_date.specs.Promise.Dates.{number_in, two_digits}

digit_is : (n : ℕ) → n < 10 → is_digit (48 + n) ≡ true
digit_is n low = grind (arith, nat_tests)

pub two_back : (n : ℕ) → n < 100 → number_in (two_digits n) ≡ Some n
two_back n low =
    let a = digit_is (n / 10) (omega arith) in
    let b = digit_is (n % 10) (omega arith) in
    let value : 10 * (10 * 0 + (48 + n / 10 - 48)) + (48 + n % 10 - 48) ≡ n = omega arith in
    rw (a, b) (ap Some value)

pub four_back : (n : ℕ) → n < 10000 → number_in ((48 + n / 100 / 10) ∷ (48 + n / 100 % 10) ∷ (48 + n % 100 / 10) ∷ (48 + n % 100 % 10) ∷ []) ≡ Some n
four_back n low =
    let a = digit_is (n / 100 / 10) (omega arith) in
    let b = digit_is (n / 100 % 10) (omega arith) in
    let c = digit_is (n % 100 / 10) (omega arith) in
    let d = digit_is (n % 100 % 10) (omega arith) in
    let value : 10 * (10 * (10 * (10 * 0 + (48 + n / 100 / 10 - 48)) + (48 + n / 100 % 10 - 48)) + (48 + n % 100 / 10 - 48)) + (48 + n % 100 % 10 - 48) ≡ n = omega arith in
    rw (a, b, c, d) (ap Some value)
