-- Characters of one column, and how others are shown.
use Rattle.std.proofs.Common.{◌≡◌, ◌≤◌, ◌<◌, ◌∷◌, ◌++◌, ◌∙◌, ◌==◌, ◌&&◌, [], ℕ, Bool, true, false, List, ap, refl, arith, append-nil, flat_map, get_or, length, nat_le, nat_lt, suc, zero}
use Rattle.std.specs.List.{list_all}
use Rattle.std.proofs.lemmas.Bool.Decides.{nat_tests}
use Rattle.std.proofs.lemmas.Grind.{flat_map-append}
use Rattle.std.proofs.lemmas.List.Sums.{sum_by-cons}
use Rattle.std.proofs.lemmas.Str.{chars-IsAscii}
use Rattle.unicode_width.specs.Width.{char_width}
use Rattle.tb_layout.specs.Promise.Characters.{columns_of, shown_text, visible_text, width_of}
use Rattle.tb_layout.specs.Promise.Lines.{blanks}
use Rattle.tb_layout.specs.Room.{is_plain}

plain_low : (c : ℕ) → is_plain c ≡ true → 32 ≤ c
plain_low c is = grind (arith, nat_tests)

pub plain_high : (c : ℕ) → is_plain c ≡ true → c < 127
plain_high c is = grind (arith, nat_tests)

pub one_column : (c : ℕ) → is_plain c ≡ true → columns_of c ≡ 1
unfolding char_width
one_column c is =
    let low : nat_le 32 c ≡ true = let h = plain_low c is in grind (arith, nat_tests) in
    let high : nat_lt c 127 ≡ true = let h = plain_high c is in grind (arith, nat_tests) in
    rw (high, low) refl

visible_same : (c : ℕ) → is_plain c ≡ true → visible_text c ≡ c ∷ []
unfolding char_width
visible_same c is =
    let low = plain_low c is in
    let a : (c == 10) ≡ false = grind (arith, nat_tests) in
    let b : (c == 9) ≡ false = grind (arith, nat_tests) in
    let d : (c == 13) ≡ false = grind (arith, nat_tests) in
    let at_least : nat_le 32 c ≡ true = grind (arith, nat_tests) in
    let high : nat_lt c 127 ≡ true = let h = plain_high c is in grind (arith, nat_tests) in
    rw (a, b, d, high, at_least) refl

pub first_plain : (b c : Bool) → (b && c) ≡ true → b ≡ true
first_plain true c is = refl
first_plain false c is = is

pub rest_plain : (b c : Bool) → (b && c) ≡ true → c ≡ true
rest_plain true c is = is
rest_plain false c is = cc is

plain_ascii : (cs : List ℕ) → list_all is_plain cs ≡ true → (i : ℕ) → get_or cs i 0 < 128
plain_ascii [] all i = omega arith
plain_ascii (c ∷ cs) all zero = let h = plain_high c (first_plain (is_plain c) (list_all is_plain cs) all) in omega arith
plain_ascii (c ∷ cs) all (suc i) = plain_ascii cs (rest_plain (is_plain c) (list_all is_plain cs) all) i

visible_all : (cs : List ℕ) → list_all is_plain cs ≡ true → flat_map visible_text cs ≡ cs
visible_all [] all = refl
visible_all (c ∷ cs) all =
    ap (λ (s : List ℕ). s ++ flat_map visible_text cs) (visible_same c (first_plain (is_plain c) (list_all is_plain cs) all))
    ∙ ap (λ (s : List ℕ). c ∷ s) (visible_all cs (rest_plain (is_plain c) (list_all is_plain cs) all))

-- plain bytes are shown as they are
pub shown_plain : (cs : List ℕ) → list_all is_plain cs ≡ true → shown_text cs ≡ cs
shown_plain cs all = ap (flat_map visible_text) (chars-IsAscii cs (plain_ascii cs all)) ∙ visible_all cs all

-- and are as wide as they are many
pub width_plain : (cs : List ℕ) → list_all is_plain cs ≡ true → width_of cs ≡ length cs
width_plain [] all = refl
width_plain (c ∷ cs) all =
    let first = one_column c (first_plain (is_plain c) (list_all is_plain cs) all) in
    let rest = width_plain cs (rest_plain (is_plain c) (list_all is_plain cs) all) in
    let sum = sum_by-cons columns_of c cs in
    omega arith

-- blanks are plain
pub plain_blanks : (n : ℕ) → list_all is_plain (blanks n) ≡ true
plain_blanks zero = refl
plain_blanks (suc n) = plain_blanks n

-- one more character is shown
pub visible_more : (cs : List ℕ) (c : ℕ) → flat_map visible_text (cs ++ c ∷ []) ≡ flat_map visible_text cs ++ visible_text c
visible_more cs c = flat_map-append visible_text cs (c ∷ []) ∙ ap (λ (s : List ℕ). flat_map visible_text cs ++ s) (append-nil (visible_text c))
