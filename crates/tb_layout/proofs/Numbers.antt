-- Numbers that are shown by their digits.
use Rattle.std.proofs.Common.{◌≡◌, ◌≤◌, ◌<◌, ◌+◌, ◌-◌, ◌*◌, ◌/◌, ◌%◌, ◌^◌, ◌∷◌, ◌++◌, ◌∙◌, [], ℕ, suc, Bool, false, nat_le, List, true, ap, arith, decimal, drop, length, length-append, min, append_assoc, nat_lt, refl, sym, take}
use Rattle.std.specs.List.{list_all}
use Rattle.std.proofs.Math.Nat.{pow-suc, pow-le-pow_right}
use Rattle.std.proofs.lemmas.Bool.Decides.{nat_tests}
use Rattle.std.proofs.lemmas.Fmt.{decimal_by_steps, length-decimal-le}
use Rattle.std.proofs.lemmas.List.{drop-append-le, drop-replicate, length-replicate, take-append-drop, take-replicate, take_all}
use Rattle.tb_layout.specs.Promise.Characters.{shown_text, width_of}
use Rattle.tb_layout.specs.Promise.Lines.{blanks, padded_cell}
use Rattle.tb_layout.specs.Room.{is_plain}
use Rattle.tb_layout.proofs.Plain.{first_plain, plain_blanks, rest_plain, shown_plain, width_plain}
use Rattle.tb_layout.proofs.Sides.{padded_same}

-- a number is below the power of ten with as many noughts as it has digits
below_one : (n : ℕ) → n < 10 → n < 10 ^ length ((48 + n) ∷ [])
below_one n low = low

below_more : (n : ℕ) (ds : List ℕ) → 10 ≤ n → n / 10 < 10 ^ length ds → n < 10 ^ length (ds ++ ((48 + n % 10) ∷ []))
below_more n ds high low =
    let long : length (ds ++ ((48 + n % 10) ∷ [])) ≡ suc (length ds) = omega (arith, length-append ds ((48 + n % 10) ∷ [])) in
    let power = pow-suc 10 (length ds) in
    rw (long, power) (omega (arith, low))

below_power : (n : ℕ) → n < 2 ^ 64 → n < 10 ^ length (decimal n)
below_power = decimal_by_steps (λ n ds. n < 10 ^ length ds) below_one below_more

at_least : (b : Bool) (n k l : ℕ) → nat_le l k ≡ b → 10 ^ k ≤ n → n < 10 ^ l → k < l
at_least true n k l is low below =
    let short : l ≤ k = grind (arith, nat_tests, is) in
    let power : 10 ^ l ≤ 10 ^ k = pow-le-pow_right (omega arith) short in
    absurd (omega (arith, power, low, below))
at_least false n k l is low below = grind (arith, nat_tests, is)

-- the digits of a number between two powers of ten
pub digits_between : (n k : ℕ) → n < 2 ^ 64 → 10 ^ k ≤ n → n < 10 * 10 ^ k → length (decimal n) ≡ k + 1
digits_between n k few low high =
    let more : 10 ^ suc k ≡ 10 ^ k * 10 = pow-suc 10 k in
    let most : length (decimal n) ≤ suc k = length-decimal-le (suc k) n (omega arith) (rw more (omega (arith, high))) few in
    let below = below_power n few in
    let least : k < length (decimal n) = at_least (nat_le (length (decimal n)) k) n k (length (decimal n)) refl low below in
    omega (arith, most, least)

plain_one : (n : ℕ) → n < 10 → list_all is_plain ((48 + n) ∷ []) ≡ true
plain_one n low =
    let least : nat_le 32 (48 + n) ≡ true = grind (arith, nat_tests) in
    let most : nat_lt (48 + n) 127 ≡ true = grind (arith, nat_tests) in
    rw (least, most) refl

plain_both : (cs ds : List ℕ) → list_all is_plain cs ≡ true → list_all is_plain ds ≡ true → list_all is_plain (cs ++ ds) ≡ true
plain_both [] ds front rest = rest
plain_both (c ∷ cs) ds front rest =
    let first = first_plain (is_plain c) (list_all is_plain cs) front in
    rw first (plain_both cs ds (rest_plain (is_plain c) (list_all is_plain cs) front) rest)

plain_more : (n : ℕ) (ds : List ℕ) → 10 ≤ n → list_all is_plain ds ≡ true → list_all is_plain (ds ++ ((48 + n % 10) ∷ [])) ≡ true
plain_more n ds high front = plain_both ds ((48 + n % 10) ∷ []) front (plain_one (n % 10) (omega arith))

-- digits are plain
pub plain_decimal : (n : ℕ) → n < 2 ^ 64 → list_all is_plain (decimal n) ≡ true
plain_decimal = decimal_by_steps (λ n ds. list_all is_plain ds ≡ true) plain_one plain_more

-- and each is one column wide
pub digits_wide : (line n : ℕ) (text : List ℕ) → n < 2 ^ 64 → text ≡ decimal n → min line (length (decimal n)) ≡ min line (width_of (shown_text text))
digits_wide line n text few is =
    let plain = plain_decimal n few in
    ap (min line) (sym (width_plain (decimal n) plain) ∙ ap width_of (sym (shown_plain (decimal n) plain) ∙ ap shown_text (sym is)))

pub digits_shown : (n width : ℕ) (right : Bool) (text : List ℕ) → n < 2 ^ 64 → text ≡ decimal n → right ≡ true → padded_cell true width (decimal n) ≡ padded_cell right width (shown_text text)
digits_shown n width right text few is number = padded_same true right width width (decimal n) (shown_text text) (sym number) refl (sym (ap shown_text is ∙ shown_plain (decimal n) (plain_decimal n few)))

-- what stands in room that blanks fill, and some of the blanks before it
behind_blanks : (from start : ℕ) (room rest : List ℕ) → from ≤ start → start ≤ 64 → drop start room ≡ rest → take start room ≡ take start (blanks 64) → drop from room ≡ blanks (start - from) ++ rest
behind_blanks from start room rest low high written before =
    let front : take start room ≡ blanks start = before ∙ take-replicate start 64 32 high in
    let long : length (take start room) ≡ start = ap length front ∙ length-replicate start 32 in
    ap (drop from) (sym (take-append-drop start room))
    ∙ drop-append-le from (take start room) (drop start room) (omega (arith, long, low))
    ∙ ap (λ s. s ++ drop start room) (ap (drop from) front ∙ drop-replicate from start 32)
    ∙ ap (λ s. blanks (start - from) ++ s) written

-- digits in such room, from where their cell begins
pub number_cell : (n start width from : ℕ) (room : List ℕ) → n < 2 ^ 64 → width ≤ 62 → start + length (decimal n) ≡ 62
    → drop start room ≡ decimal n ++ drop 62 (blanks 64) → take start room ≡ take start (blanks 64) → from ≡ min start (62 - width)
    → take (64 - from) (drop from room) ≡ padded_cell true width (decimal n) ++ blanks 2
number_cell n start width from room few narrow begins written before least =
    let digits = decimal n in
    let wide : width_of digits ≡ length digits = width_plain digits (plain_decimal n few) in
    let missing : start - from ≡ width - width_of digits = omega (arith, begins, wide, narrow, least) in
    let end = length-append digits (blanks 2) in
    let all = length-append (blanks (start - from)) (digits ++ blanks 2) in
    let gap : length (blanks (start - from)) ≡ start - from = length-replicate (start - from) 32 in
    ap (take (64 - from)) (behind_blanks from start room (digits ++ blanks 2) (omega (arith, least)) (omega (arith, begins)) (written ∙ ap (λ s. digits ++ s) (drop-replicate 62 64 32)) before)
    ∙ take_all (64 - from) (blanks (start - from) ++ (digits ++ blanks 2)) (omega (arith, end, all, gap, begins, least))
    ∙ ap (λ k. blanks k ++ (digits ++ blanks 2)) missing
    ∙ sym (append_assoc (blanks (width - width_of digits)) digits (blanks 2))

-- no number of 64 bits has more digits than that room
pub digits_fit : (n : ℕ) → n < 2 ^ 64 → length (decimal n) ≤ 62
digits_fit n few =
    let short = length-decimal-le 20 n (omega arith) (omega (arith, few)) few in
    omega (arith, short)

-- a cell that ends in blanks is plain as a whole
pub plain_cell : (n width : ℕ) → n < 2 ^ 64 → list_all is_plain (padded_cell true width (decimal n) ++ blanks 2) ≡ true
plain_cell n width few =
    plain_both (blanks (width - width_of (decimal n)) ++ decimal n) (blanks 2)
    (plain_both (blanks (width - width_of (decimal n))) (decimal n) (plain_blanks (width - width_of (decimal n))) (plain_decimal n few)) (plain_blanks 2)
