-- Texts of digits and nothing else.
use Rattle.std.proofs.Common.{◌≡◌, ◌∙◌, ℕ, ◌^◌, ◌<◌, List, [], ◌∷◌, ◌++◌, length, get_or, true, false, Some, refl, sym, ap, arith, append-nil, lt-ltb, ne_eqb}
use Rattle.std.specs.Char.{digit_value}
use Rattle.std.specs.Str.Parse.{digits_value, AllDigits}
use Rattle.fast_float.specs.Text.{Parts, scan, IsWellFormed}
use Rattle.fast_float.proofs.Writing.{scan-text_of}
use Rattle.serde_json.specs.Data.{unsigned}
use Rattle.serde_json.specs.Read.{number_of, number_from}

no_minus : (ds : List ℕ) → AllDigits 10 ds → 0 < length ds → get_or ds 0 0 ≡ 45 → ⊥
no_minus [] all some e = omega arith
no_minus (d ∷ ds) all some e = let digit : digit_value d < 10 = all.0 in let is : d ≡ 45 = e in grind arith

abbrev whole_parts : List ℕ → Parts
whole_parts ds = record { whole = ds; point = false; fraction = []; exponent_negative = false; exponent = []; len = length (ds ++ []) }

pub number_of-digits : (ds : List ℕ) → 0 < length ds → AllDigits 10 ds → digits_value 10 ds < 2 ^ 64 → number_of ds ≡ Some (unsigned (digits_value 10 ds))
unfolding number_of
number_of-digits ds some all fits =
    let formed : IsWellFormed (whole_parts ds) = record { whole_digits = all; fraction_digits = tt; exponent_digits = tt; no_point = λ _. refl; no_exponent = λ _. refl; len_is = refl } in
    let read : scan ds ≡ whole_parts ds = ap scan (sym (append-nil ds)) ∙ scan-text_of (whole_parts ds) formed in
    rw (ne_eqb (get_or ds 0 0) 45 (no_minus ds all some)) (ap (number_from false) read ∙ rw (lt-ltb _ _ some, append-nil) (rw (lt-ltb _ _ fits)))
