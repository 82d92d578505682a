-- The parts of a word round its last sign.
use Rattle.std.proofs.Common.{◌≡◌, ◌∙◌, ◌≤◌, ◌<◌, ◌+◌, ◌-◌, ◌≢◌, arith, ap, not, false, true, get_or, length, List, ℕ, Some, None, take, drop}
use Rattle.std.specs.List.{after_last, before_last, position_or_len, suffix_len}
use Rattle.std.specs.Str.Pattern.{RFindsChar}
use Rattle.std.proofs.lemmas.Bool.{both_ways, eq-eqb, ne_eqb}
use Rattle.std.proofs.lemmas.List.{get_or-drop, length-drop}
use Rattle.std.proofs.lemmas.List.Sums.{position_or_len_is, suffix_len_is, fails_before_first}
use Rattle.std.proofs.lemmas.Str.{len_utf8_ascii}
use Rattle.std.proofs.lemmas.Str.Pattern.{NoCharPasses-char}
use Rattle.tb_words.specs.Words.{is_sign}

pub none_found : (w : List ℕ) → RFindsChar 61 w None → position_or_len is_sign w ≡ length w
none_found w h = position_or_len_is is_sign w (length w) 0 (omega arith) (λ k lt. ne_eqb (get_or w k 0) 61 (NoCharPasses-char 61 w k h (omega arith) lt)) (λ lt. absurd (omega arith))

module _ (w : List ℕ) (i j : ℕ) (found : RFindsChar 61 w (Some (i, j))) (fits : j ≤ length w) where
  next : j ≡ i + 1
  next = omega (arith, found.1.ends, len_utf8_ascii 61 (omega arith))

  inside : i < length w
  inside = omega (arith, next, fits)

  here : is_sign (get_or w i 0) ≡ true
  here = eq-eqb (get_or w i 0) 61 (found.1.byte (omega arith))

  later : (k : ℕ) → i + 1 ≤ k → k < length w → is_sign (get_or w k 0) ≡ false
  later k from lt =
      let back : j + (k - j) ≡ k = omega (arith, next) in
      ne_eqb (get_or w k 0) 61 (λ e. NoCharPasses-char 61 (drop j w) (k - j) found.0 (omega arith) (omega (arith, next, length-drop j w)) (get_or-drop j w (k - j) 0 ∙ ap (λ n. get_or w n 0) back ∙ e))

  behind : suffix_len (λ x. not (is_sign x)) w ≡ length w - (i + 1)
  behind =
      let same : i + 1 - 1 ≡ i = omega arith in
      suffix_len_is (λ x. not (is_sign x)) w (i + 1) 0 (omega (arith, inside)) (λ k from lt. ap not (later k from lt)) (λ _. ap (λ n. not (is_sign (get_or w n 0))) same ∙ ap not here)

  pub name_part : before_last is_sign w ≡ take i w
  name_part = ap (λ n. take n w) (omega (arith, behind, inside))

  pub type_part : after_last is_sign w ≡ drop j w
  type_part = ap (λ n. drop n w) (omega (arith, behind, inside, next))

  pub some_sign : position_or_len is_sign w ≢ length w
  some_sign all = both_ways (is_sign (get_or w i 0)) (fails_before_first is_sign w i 0 (omega (arith, all, inside))) here
