-- Words that are numbers of rows.
use Rattle.std.proofs.Common.{◌≡◌, ◌∙◌, ◌<◌, ◌^◌, subst, ℕ, Bool, true, false, cond, ◌&&◌, List, [], ◌∷◌, length, None, refl, sym, ap, arith}
use Rattle.std.specs.Char.{digit_value, is_digit}
use Rattle.std.specs.List.{list_all}
use Rattle.std.specs.Str.Parse.{AllDigits, IsNumeral, digits_value, without_leading_plus}
use Rattle.std.proofs.lemmas.Bool.{lt-ltb, ltb-true}
use Rattle.std.proofs.lemmas.Bool.Decides.{nat_tests}
use Rattle.tb_run.specs.Promise.Words.{begins_plainly, in_bounds, sample_rows}

-- a word that begins with a digit has no sign
unsigned : (word : List ℕ) → begins_plainly word ≡ true → without_leading_plus word ≡ word
unsigned [] plain = absurd (cc)
unsigned (c ∷ cs) plain = grind (arith, nat_tests)

some_digits : (word : List ℕ) → begins_plainly word ≡ true → 0 < length word
some_digits [] plain = absurd (cc)
some_digits (c ∷ cs) plain = omega arith

all_digits : (word : List ℕ) → list_all (λ digit. is_digit digit 10) word ≡ true → AllDigits 10 word
all_digits [] all = tt
all_digits (c ∷ cs) all = by (is_digit c 10) refl all (all_digits cs)
  where
    by : (b : Bool) → is_digit c 10 ≡ b → (b && list_all (λ digit. is_digit digit 10) cs) ≡ true → (list_all (λ digit. is_digit digit 10) cs ≡ true → AllDigits 10 cs) → AllDigits 10 (c ∷ cs)
    by true is rest next = (ltb-true (digit_value c) 10 is, next rest)
    by false is rest next = absurd (cc)

each_digit : (word : List ℕ) → AllDigits 10 word → list_all (λ digit. is_digit digit 10) word ≡ true
each_digit [] all = refl
each_digit (c ∷ cs) all = ap (λ (b : Bool). b && list_all (λ digit. is_digit digit 10) cs) (lt-ltb (digit_value c) 10 all.0) ∙ each_digit cs all.1

-- a numeral is the number that it writes
pub rows_read : (word : List ℕ) (n : ℕ) → begins_plainly word ≡ true → IsNumeral 10 (without_leading_plus word) → n ≡ digits_value 10 (without_leading_plus word) → in_bounds n ≡ sample_rows word
rows_read word n plain numeral is =
    let same = unsigned word plain in
    let digits : list_all (λ digit. is_digit digit 10) word ≡ true = each_digit word (subst (AllDigits 10) same numeral.1) in
    ap in_bounds (is ∙ ap (digits_value 10) same)
    ∙ ap (λ (b : Bool). cond b (in_bounds (digits_value 10 word)) None) (sym (ap (λ (b : Bool). b && list_all (λ digit. is_digit digit 10) word) plain ∙ digits))

large : (n : ℕ) → ¬ (n < 2 ^ 32) → None ≡ in_bounds n
large n high = grind (arith, nat_tests)

-- and what is no numeral of 32 bits asks for no rows
pub no_rows : (word : List ℕ) → begins_plainly word ≡ true → ¬ (IsNumeral 10 (without_leading_plus word) × (digits_value 10 (without_leading_plus word) < 2 ^ 32)) → None ≡ sample_rows word
no_rows word plain wrong = by (list_all (λ digit. is_digit digit 10) word) refl
  where
    by : (b : Bool) → list_all (λ digit. is_digit digit 10) word ≡ b → None ≡ sample_rows word
    by true digits =
        let same = sym (unsigned word plain) in
        let numeral : IsNumeral 10 word = (some_digits word plain, all_digits word digits) in
        let high : ¬ (digits_value 10 word < 2 ^ 32) = λ low. wrong (subst (λ w. IsNumeral 10 w × (digits_value 10 w < 2 ^ 32)) same (numeral, low)) in
        large (digits_value 10 word) high ∙ ap (λ (b : Bool). cond b (in_bounds (digits_value 10 word)) None) (sym (ap (λ (b : Bool). b && list_all (λ digit. is_digit digit 10) word) plain ∙ digits))
    by false digits = ap (λ (b : Bool). cond b (in_bounds (digits_value 10 word)) None) (sym (ap (λ (b : Bool). b && list_all (λ digit. is_digit digit 10) word) plain ∙ digits))
