-- Lines as they are written.
use Rattle.std.proofs.Common.{◌≡◌, ◌≤◌, ◌<◌, ◌+◌, ◌-◌, ◌∷◌, ◌++◌, ◌∙◌, [], ℕ, Bool, true, false, List, Option, Some, None, ap, sym, refl, arith, append-nil, append_assoc, cond, encode_utf8, encode_utf8_all, flat_map, length, nat_le, suc, take, zero}
use Rattle.std.specs.List.{list_all}
use Rattle.std.proofs.lemmas.Bool.Decides.{nat_tests}
use Rattle.std.proofs.lemmas.List.Sums.{fold-append, sum_by-append}
use Rattle.std.proofs.lemmas.Str.{encode_ascii, encodes-append}
use Rattle.tb_layout.specs.Promise.Characters.{columns_of, cut, visible_text, width_of}
use Rattle.tb_layout.specs.Room.{is_plain, room_left, with_cut, within}
use Rattle.tb_layout.proofs.Plain.{first_plain, one_column, plain_high, rest_plain, visible_more}

-- more characters behind others
pub cut_more : (p : List ℕ × Option ℕ) (a b : List ℕ) → with_cut p (a ++ b) ≡ with_cut (with_cut p a) b
cut_more p a b = fold-append (λ (q : List ℕ × Option ℕ) (c : ℕ). within q.0 q.1 c) p a b

pub stopped : (s cs : List ℕ) → with_cut (s, None) cs ≡ (s, None)
stopped s [] = refl
stopped s (c ∷ cs) = stopped s cs

whole_step : (b : Bool) (c : ℕ) (cs s : List ℕ) (room : ℕ) → (with_cut (s ++ encode_utf8 c, Some room) cs).0 ≡ (s ++ encode_utf8 c) ++ encode_utf8_all (cut room cs)
    → (with_cut (cond b (s ++ encode_utf8 c, Some room) (s, None)) cs).0 ≡ s ++ encode_utf8_all (cond b (c ∷ cut room cs) [])
whole_step true c cs s room h = h ∙ append_assoc s (encode_utf8 c) (encode_utf8_all (cut room cs))
whole_step false c cs s room h = ap (λ (p : List ℕ × Option ℕ). p.0) (stopped s cs) ∙ sym (append-nil s)

-- the text behind a whole line is that of its cut
pub cut_whole : (cs s : List ℕ) (room : ℕ) → (with_cut (s, Some room) cs).0 ≡ s ++ encode_utf8_all (cut room cs)
cut_whole [] s room = sym (append-nil s)
cut_whole (c ∷ cs) s room = whole_step (nat_le (columns_of c) room) c cs s (room - columns_of c) (cut_whole cs (s ++ encode_utf8 c) (room - columns_of c))

plain_step : (c : ℕ) (s : List ℕ) (room : ℕ) → is_plain c ≡ true → 1 ≤ room → within s (Some room) c ≡ (s ++ c ∷ [], Some (room - 1))
plain_step c s room is low =
    let one = one_column c is in
    let fits : nat_le 1 room ≡ true = grind (arith, nat_tests) in
    let high = plain_high c is in
    rw (one, fits, encode_ascii c (omega arith)) refl

no_step : (c : ℕ) (s : List ℕ) → is_plain c ≡ true → within s (Some 0) c ≡ (s, None)
no_step c s is = rw (one_column c is) refl

-- plain characters that all fit
pub plain_fits : (cs s : List ℕ) (room : ℕ) → list_all is_plain cs ≡ true → length cs ≤ room → with_cut (s, Some room) cs ≡ (s ++ cs, Some (room - length cs))
plain_fits [] s room all low =
    let same : room ≡ room - 0 = omega arith in
    ap (λ (t : List ℕ). (t, Some room)) (sym (append-nil s)) ∙ ap (λ (n : ℕ). (s ++ [], Some n)) same
plain_fits (c ∷ cs) s room all low =
    let first = plain_step c s room (first_plain (is_plain c) (list_all is_plain cs) all) (omega arith) in
    let same : room - 1 - length cs ≡ room - length (c ∷ cs) = omega arith in
    ap (λ (p : List ℕ × Option ℕ). with_cut p cs) first
    ∙ plain_fits cs (s ++ c ∷ []) (room - 1) (rest_plain (is_plain c) (list_all is_plain cs) all) (omega arith)
    ∙ ap (λ (t : List ℕ). (t, Some (room - 1 - length cs))) (append_assoc s (c ∷ []) cs)
    ∙ ap (λ (n : ℕ). (s ++ c ∷ cs, Some n)) same

-- plain characters of which only the first fit
pub plain_stops : (cs s : List ℕ) (room : ℕ) → list_all is_plain cs ≡ true → room < length cs → with_cut (s, Some room) cs ≡ (s ++ take room cs, None)
plain_stops [] s room all high = absurd (omega arith)
plain_stops (c ∷ cs) s zero all high =
    ap (λ (p : List ℕ × Option ℕ). with_cut p cs) (no_step c s (first_plain (is_plain c) (list_all is_plain cs) all))
    ∙ stopped s cs ∙ ap (λ (t : List ℕ). (t, None)) (sym (append-nil s))
plain_stops (c ∷ cs) s (suc room) all high =
    let same : suc room - 1 ≡ room = omega arith in
    ap (λ (p : List ℕ × Option ℕ). with_cut p cs) (plain_step c s (suc room) (first_plain (is_plain c) (list_all is_plain cs) all) (omega arith))
    ∙ ap (λ (n : ℕ). with_cut (s ++ c ∷ [], Some n) cs) same
    ∙ plain_stops cs (s ++ c ∷ []) room (rest_plain (is_plain c) (list_all is_plain cs) all) (omega arith)
    ∙ ap (λ (t : List ℕ). (t, None)) (append_assoc s (c ∷ []) (take room cs))

-- room that is taken twice
left_step : (b : Bool) (room a n : ℕ) → nat_le a room ≡ b → room_left (cond b (Some (room - a)) None) n ≡ room_left (Some room) (a + n)
left_step true room a n is = grind (arith, nat_tests)
left_step false room a n is = grind (arith, nat_tests)

pub left_more : (room a n : ℕ) → room_left (room_left (Some room) a) n ≡ room_left (Some room) (a + n)
left_more room a n = left_step (nat_le a room) room a n refl

-- the room behind one more character that is shown
pub left_shown : (room w c : ℕ) (cs : List ℕ) (l r : Option ℕ) → r ≡ room_left l w → w ≡ width_of (visible_text c) → l ≡ room_left (Some room) (width_of (flat_map visible_text cs))
    → r ≡ room_left (Some room) (width_of (flat_map visible_text (cs ++ c ∷ [])))
left_shown room w c cs l r taken wide so_far =
    let total : width_of (flat_map visible_text (cs ++ c ∷ [])) ≡ width_of (flat_map visible_text cs) + width_of (visible_text c) = ap width_of (visible_more cs c) ∙ sum_by-append columns_of (flat_map visible_text cs) (visible_text c) in
    taken ∙ ap (λ (o : Option ℕ). room_left o w) so_far
    ∙ left_more room (width_of (flat_map visible_text cs)) w
    ∙ ap (λ (n : ℕ). room_left (Some room) (width_of (flat_map visible_text cs) + n)) wide
    ∙ ap (room_left (Some room)) (sym total)

-- one more character is shown whole
pub whole_more : (c : ℕ) (cs base old new : List ℕ) → new ≡ old ++ encode_utf8_all (visible_text c) → old ≡ base ++ encode_utf8_all (flat_map visible_text cs)
    → new ≡ base ++ encode_utf8_all (flat_map visible_text (cs ++ c ∷ []))
whole_more c cs base old new push so_far =
    let before = flat_map visible_text cs in
    push ∙ ap (λ (s : List ℕ). s ++ encode_utf8_all (visible_text c)) so_far
    ∙ append_assoc base (encode_utf8_all before) (encode_utf8_all (visible_text c))
    ∙ ap (λ (s : List ℕ). base ++ s) (sym (encodes-append before (visible_text c)) ∙ ap encode_utf8_all (sym (visible_more cs c)))
