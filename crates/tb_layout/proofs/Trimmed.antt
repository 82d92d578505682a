-- Texts without blanks at their end.
use Rattle.std.proofs.Common.{◌≡◌, ◌≤◌, ◌<◌, ◌+◌, ◌-◌, ◌/◌, ◌∷◌, ◌++◌, ◌∙◌, [], ℕ, Bool, true, false, List, ap, sym, refl, arith, append-nil, append_assoc, cond, encode_utf8_all, length, nat_lt, take, drop, reverse}
use Rattle.std.specs.List.{prefix_len, suffix_len}
use Rattle.std.proofs.lemmas.Bool.Decides.{nat_tests}
use Rattle.std.proofs.lemmas.List.{drop-append-le, drop-take, drop_all, length-append, length-drop, reverse-append, reverse-reverse, take-append-drop, take-append-le, take-take, take_all}
use Rattle.std.proofs.lemmas.Str.{encode_ascii, encodes-append}
use lib.Utf8.{encode, next}
use Rattle.tb_layout.specs.Laid.{ended_line}
use Rattle.tb_layout.specs.Promise.Characters.{cut, is_blank, trimmed_text}

suffix_push : (xs : List ℕ) (x : ℕ) → suffix_len is_blank (xs ++ x ∷ []) ≡ cond (is_blank x) (1 + suffix_len is_blank xs) 0
suffix_push xs x = ap (prefix_len is_blank) (reverse-append xs (x ∷ []))

-- a blank at the end goes
trimmed_blank : (xs : List ℕ) (x : ℕ) → is_blank x ≡ true → trimmed_text (xs ++ x ∷ []) ≡ trimmed_text xs
trimmed_blank xs x is =
    let more : suffix_len is_blank (xs ++ x ∷ []) ≡ 1 + suffix_len is_blank xs = suffix_push xs x ∙ ap (λ (b : Bool). cond b (1 + suffix_len is_blank xs) 0) is in
    let long = length-append xs (x ∷ []) in
    let count : length (xs ++ x ∷ []) - suffix_len is_blank (xs ++ x ∷ []) ≡ length xs - suffix_len is_blank xs = omega arith in
    ap (λ (n : ℕ). take n (xs ++ x ∷ [])) count ∙ take-append-le (length xs - suffix_len is_blank xs) xs (x ∷ []) (omega arith)

-- all else stays
trimmed_other : (xs : List ℕ) (x : ℕ) → is_blank x ≡ false → trimmed_text (xs ++ x ∷ []) ≡ xs ++ x ∷ []
trimmed_other xs x is =
    let none : suffix_len is_blank (xs ++ x ∷ []) ≡ 0 = suffix_push xs x ∙ ap (λ (b : Bool). cond b (1 + suffix_len is_blank xs) 0) is in
    ap (λ (n : ℕ). take (length (xs ++ x ∷ []) - n) (xs ++ x ∷ [])) none ∙ take_all (length (xs ++ x ∷ []) - 0) (xs ++ x ∷ []) (omega arith)

next_other : (xs : List ℕ) (n : ℕ) → trimmed_text (xs ++ next n ∷ []) ≡ xs ++ next n ∷ []
next_other xs n =
    let high : 128 ≤ next n = omega arith in
    trimmed_other xs (next n) (grind (arith, nat_tests))

behind : (xs : List ℕ) (h n : ℕ) → trimmed_text (xs ++ h ∷ next n ∷ []) ≡ xs ++ h ∷ next n ∷ []
behind xs h n =
    let e = append_assoc xs (h ∷ []) (next n ∷ []) in
    ap trimmed_text (sym e) ∙ next_other (xs ++ h ∷ []) n ∙ e

-- a character that is no blank ends in a byte that is none
form : (a b c : Bool) (x h₂ h₃ m₃ h₄ m₄ l₄ : ℕ) (ys : List ℕ) → is_blank x ≡ false
    → trimmed_text (ys ++ cond a (x ∷ []) (cond b (h₂ ∷ next x ∷ []) (cond c (h₃ ∷ m₃ ∷ next x ∷ []) (h₄ ∷ m₄ ∷ l₄ ∷ next x ∷ []))))
    ≡ ys ++ cond a (x ∷ []) (cond b (h₂ ∷ next x ∷ []) (cond c (h₃ ∷ m₃ ∷ next x ∷ []) (h₄ ∷ m₄ ∷ l₄ ∷ next x ∷ [])))
form true b c x h₂ h₃ m₃ h₄ m₄ l₄ ys is = trimmed_other ys x is
form false true c x h₂ h₃ m₃ h₄ m₄ l₄ ys is = behind ys h₂ x
form false false true x h₂ h₃ m₃ h₄ m₄ l₄ ys is =
    let e = append_assoc ys (h₃ ∷ []) (m₃ ∷ next x ∷ []) in
    ap trimmed_text (sym e) ∙ behind (ys ++ h₃ ∷ []) m₃ x ∙ e
form false false false x h₂ h₃ m₃ h₄ m₄ l₄ ys is =
    let e = append_assoc ys (h₄ ∷ m₄ ∷ []) (l₄ ∷ next x ∷ []) in
    ap trimmed_text (sym e) ∙ behind (ys ++ h₄ ∷ m₄ ∷ []) l₄ x ∙ e

encoded_other : (x : ℕ) (ys : List ℕ) → is_blank x ≡ false → trimmed_text (ys ++ encode x) ≡ ys ++ encode x
unfolding encode
encoded_other x ys is = form (nat_lt x 128) (nat_lt x 2048) (nat_lt x 65536) x (192 + x / 64) (224 + x / 4096) (next (x / 64)) (240 + x / 262144) (next (x / 4096)) (next (x / 64)) ys is

encode_push : (xs : List ℕ) (x : ℕ) → encode_utf8_all (xs ++ x ∷ []) ≡ encode_utf8_all xs ++ encode x
encode_push xs x = encodes-append xs (x ∷ []) ∙ ap (λ (s : List ℕ). encode_utf8_all xs ++ s) (append-nil (encode x))

one_more : (b : Bool) (xs : List ℕ) (x : ℕ) → is_blank x ≡ b → trimmed_text (encode_utf8_all xs) ≡ encode_utf8_all (trimmed_text xs)
    → trimmed_text (encode_utf8_all (xs ++ x ∷ [])) ≡ encode_utf8_all (trimmed_text (xs ++ x ∷ []))
one_more true xs x is so_far =
    let low : x < 128 = grind (arith, nat_tests) in
    ap trimmed_text (encode_push xs x ∙ ap (λ (s : List ℕ). encode_utf8_all xs ++ s) (encode_ascii x low))
    ∙ trimmed_blank (encode_utf8_all xs) x is ∙ so_far ∙ ap encode_utf8_all (sym (trimmed_blank xs x is))
one_more false xs x is so_far =
    ap trimmed_text (encode_push xs x) ∙ encoded_other x (encode_utf8_all xs) is ∙ sym (encode_push xs x) ∙ ap encode_utf8_all (sym (trimmed_other xs x is))

turned : (rs : List ℕ) → trimmed_text (encode_utf8_all (reverse rs)) ≡ encode_utf8_all (trimmed_text (reverse rs))
turned [] = refl
turned (x ∷ rs) =
    let e : reverse (x ∷ rs) ≡ reverse rs ++ x ∷ [] = reverse-append (x ∷ []) rs in
    ap (λ (cs : List ℕ). trimmed_text (encode_utf8_all cs)) e ∙ one_more (is_blank x) (reverse rs) x refl (turned rs) ∙ ap (λ (cs : List ℕ). encode_utf8_all (trimmed_text cs)) (sym e)

-- blanks at the end are the same in characters and in bytes
pub trimmed_encodes : (cs : List ℕ) → trimmed_text (encode_utf8_all cs) ≡ encode_utf8_all (trimmed_text cs)
trimmed_encodes cs =
    let e : reverse (reverse cs) ≡ cs = reverse-reverse cs in
    ap (λ (ds : List ℕ). trimmed_text (encode_utf8_all ds)) (sym e) ∙ turned (reverse cs) ∙ ap (λ (ds : List ℕ). encode_utf8_all (trimmed_text ds)) e

-- a line that was written behind a text is ended
pub line_end : (line start : ℕ) (l old mid : List ℕ) → mid ≡ old ++ encode_utf8_all (cut line l) → start ≡ length old
    → take start mid ++ (trimmed_text (drop start mid) ++ 10 ∷ []) ≡ old ++ encode_utf8_all (ended_line line l)
line_end line start l old mid written begins =
    let x = encode_utf8_all (cut line l) in
    let front : take start mid ≡ old = ap (λ (n : ℕ). take n mid) begins ∙ ap (take (length old)) written ∙ take-append-le (length old) old x (omega arith) ∙ take_all (length old) old (omega arith) in
    let back : drop start mid ≡ x = ap (λ (n : ℕ). drop n mid) begins ∙ ap (drop (length old)) written ∙ drop-append-le (length old) old x (omega arith) ∙ ap (λ (s : List ℕ). s ++ x) (drop_all (length old) old (omega arith)) in
    ap (λ (s : List ℕ). s ++ (trimmed_text (drop start mid) ++ 10 ∷ [])) front
    ∙ ap (λ (s : List ℕ). old ++ (trimmed_text s ++ 10 ∷ [])) back
    ∙ ap (λ (s : List ℕ). old ++ (s ++ 10 ∷ [])) (trimmed_encodes (cut line l))
    ∙ ap (λ (s : List ℕ). old ++ (encode_utf8_all (trimmed_text (cut line l)) ++ s)) (sym (encode_ascii 10 (omega arith)))
    ∙ ap (λ (s : List ℕ). old ++ s) (sym (encode_push (trimmed_text (cut line l)) 10))

pub front_more : {X : Type 0} (start k : ℕ) (xs : List X) → take (start + k) xs ≡ take start xs ++ take k (drop start xs)
front_more start k xs =
    let front : take start (take (start + k) xs) ≡ take start xs = take-take start (start + k) xs (omega arith) in
    sym (take-append-drop start (take (start + k) xs))
    ∙ ap (λ ys. ys ++ drop start (take (start + k) xs)) front
    ∙ ap (λ ys. take start xs ++ ys) (drop-take start k xs)

-- the blanks go from the end of a line, and a line feed comes
pub blanks_gone : (old short new : List ℕ) (start blanks n : ℕ) → start ≤ length old → blanks ≡ suffix_len is_blank (drop start old) → blanks ≤ length (drop start old)
    → n ≡ length old - blanks → short ≡ take n old → new ≡ short ++ 10 ∷ [] → new ≡ take start old ++ (trimmed_text (drop start old) ++ 10 ∷ [])
blanks_gone old short new start blanks n low count few left cut_off push =
    let rest = drop start old in
    let k = length rest - blanks in
    let long = length-drop start old in
    let parts : n ≡ start + k = omega arith in
    push ∙ ap (λ (s : List ℕ). s ++ 10 ∷ []) (cut_off ∙ ap (λ (m : ℕ). take m old) parts ∙ front_more start k old)
    ∙ append_assoc (take start old) (take k rest) (10 ∷ [])
    ∙ ap (λ (m : ℕ). take start old ++ (take (length rest - m) rest ++ 10 ∷ [])) count
