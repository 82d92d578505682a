use Rattle.std.proofs.Common.{◌≡◌, ◌≤◌, ℕ, ℤ, pos, negsuc, List, [], ◌∷◌, Bool, true, false, cond, ◌&&◌, ◌||◌, eqb, ne_eqb, nat_le, codes, ◌⊎◌, inl, inr, subst, Some, None, Result, Ok, Err, FitsSigned, refl, sym, ap, ◌∙◌, true≢false, arith, rules}
use Rattle.std.specs.Result.{OkIff, result_ok}
use Rattle.std.specs.Str.Parse.{AllDigits, IsNumeral, without_leading_sign, without_leading_plus, signed_digits_value}
use Rattle.std.specs.Int.{w128}
use Rattle.std.specs.Str.{bytes_eq}
use Rattle.std.proofs.lemmas.Slice.Eq.{bytes_eq-Decides}
use Rattle.std.proofs.lemmas.Bool.Decides.{nat_tests}
use Rattle.std.proofs.lemmas.Int.{ints}
use Rattle.std.proofs.lemmas.Str.{digit_value_digit}
use Rattle.tb_label.specs.Promise.Numerals.{is_digit, are_digits, is_counting, is_whole, fits, whole_in}
use Rattle.tb_label.proofs.numerals.whole_in.Goals as goal

fits_true : (z : ℤ) → fits z ≡ true → FitsSigned w128 z
fits_true (pos n) h = grind (arith, nat_tests, ints)
fits_true (negsuc n) h = grind (arith, nat_tests, ints)

fits_of : (z : ℤ) → FitsSigned w128 z → fits z ≡ true
fits_of (pos n) h = grind (arith, nat_tests, ints)
fits_of (negsuc n) h = grind (arith, nat_tests, ints)

both : (a b : Bool) → (a && b) ≡ true → (a ≡ true) × (b ≡ true)
both true b h = (refl, h)
both false b h = absurd (true≢false (sym h))

digit_ten : (c : ℕ) → is_digit c ≡ true → 48 ≤ c × (c ≤ 57)
digit_ten c h = grind (arith, nat_tests)

pub returns-then-not-is_whole : goal.returns-then-not-is_whole
unfolding whole_in
returns-then-not-is_whole c = search rules

numeral : (ds : List ℕ) → are_digits ds ≡ true → AllDigits 10 ds
numeral [] h = tt
numeral (c ∷ cs) h =
    let p = both (is_digit c) (are_digits cs) h in
    let r = digit_ten c p.0 in (omega (arith, digit_value_digit c (r.0, r.1)), numeral cs p.1)

from_49 : (c : ℕ) → (nat_le 49 c && nat_le c 57) ≡ true → 49 ≤ c × (c ≤ 57)
from_49 c h = grind (arith, nat_tests)

counting : (ds : List ℕ) → is_counting ds ≡ true → IsNumeral 10 ds
counting [] h = absurd (true≢false (sym h))
counting (c ∷ cs) h =
    let p = both (nat_le 49 c && nat_le c 57) (are_digits cs) h in
    let r = from_49 c p.0 in (omega arith, (omega (arith, digit_value_digit c (omega arith, r.1)), numeral cs p.1))

plain : (c : ℕ) (cs : List ℕ) → is_counting (c ∷ cs) ≡ true → IsNumeral 10 (without_leading_plus (c ∷ cs))
plain c cs h =
    let p = both (nat_le 49 c && nat_le c 57) (are_digits cs) h in
    let r = from_49 c p.0 in
    rw (ne_eqb c 43 (λ e. omega arith)) (counting (c ∷ cs) h)

signed : (b : Bool) (c : ℕ) (cs : List ℕ) → cond b (is_counting cs) (is_counting (c ∷ cs)) ≡ true → IsNumeral 10 (cond b cs (without_leading_plus (c ∷ cs)))
signed true c cs h = counting cs h
signed false c cs h = plain c cs h

either : (b : Bool) (s : List ℕ) (c : Bool) → (b || c) ≡ true → (b ≡ true → s ≡ codes "0") → (s ≡ codes "0") ⊎ (c ≡ true)
either true s c h f = inl (f refl)
either false s c h f = inr h

zero_is : (s : List ℕ) → s ≡ codes "0" → IsNumeral 10 (without_leading_sign s)
zero_is s e = let P : List ℕ → Type 0 = λ t. IsNumeral 10 (without_leading_sign t) in subst P (sym e) (omega arith, (omega arith, tt))

whole_is : (s : List ℕ) → is_whole s ≡ true → IsNumeral 10 (without_leading_sign s)
whole_is [] h = absurd (true≢false (sym h))
whole_is (c ∷ cs) h =
    elim (either (bytes_eq (c ∷ cs) (codes "0")) (c ∷ cs) _ h (bytes_eq-Decides (c ∷ cs) (codes "0")).0) [ inl e ↦ zero_is (c ∷ cs) e | inr k ↦ signed (eqb c 45) c cs k ]

no_fit : (b : Bool) (z : ℤ) → (b ≡ true → ⊥) → None ≡ cond (true && b) (Some z) None
no_fit true z h = absurd (h refl)
no_fit false z h = refl

parsed : {E : Type 0} (r : Result ℤ E) (s : List ℕ) → OkIff r (IsNumeral 10 (without_leading_sign s) × FitsSigned w128 (signed_digits_value 10 s)) (signed_digits_value 10 s) → is_whole s ≡ true → result_ok r ≡ whole_in s
unfolding whole_in
parsed (Ok x) s h w = rw (w, fits_of (signed_digits_value 10 s) h.0.1) (ap Some h.1)
parsed (Err e) s h w = rw w (no_fit (fits (signed_digits_value 10 s)) _ (λ f. h (whole_is s w, fits_true _ f)))

pub returns : goal.returns
returns c = c.ok.ensures.value ∙ parsed _ _ c.parse.ensures.value.0 (sym c.is_whole.ensures ∙ c.if-not-is_whole.false)
