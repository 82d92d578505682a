-- A text without a quote.
use Rattle.std.proofs.Common.{◌≡◌, ◌==◌, ◌∷◌, [], ℕ, zero, suc, List, Bool, true, false, cond, drop, take, length, get_or, ◌-◌, ◌≤◌, arith, refl, sym, subst, Option, Some, None}
use Rattle.std.proofs.lemmas.List.{get_or_default, take_all}
use Rattle.std.proofs.lemmas.List.Folds.{list_any_at, list_any_none}
use Rattle.memchr.specs.Find.{IsFirstByte, is_byte}
use Rattle.std.specs.Prelude.{is_some, ◌||◌, if◌then◌else◌}
use Rattle.std.specs.List.{list_any}
use Rattle.csv.specs.Machine.{ends_at_end, in_field, step}
use Rattle.csv.specs.Reading.{is_bom, strip_bom}
use Rattle.csv.specs.declared.parser.Action.{Action}
use Rattle.csv.specs.declared.parser.State.{State}
use Rattle.csv.specs.declared.parser.State.TheVariants as st
use Rattle.tb_csv.specs.Places.{MarkAlike, has_mark, has_quote}
use Rattle.tb_csv.specs.Promise.LineNumbers.{has_open_quote, is_open, state_behind}
use Rattle.tb_csv.specs.Promise.Records.{Line, ends_field, form, is_quoted, marked_fields, marks_from, marks_of}
use Rattle.tb_csv.proofs.Truth.{or_parts}

-- states outside quotes
abbrev outside : State → Bool
outside st.StartRecord = true
outside st.StartField = true
outside st.InField = true
outside st.AfterCr = true
outside _ = false

in_field_outside : (a b d : Bool) (x y z : Action) → outside (cond {A = State × Action} a (st.StartField, x) (cond {A = State × Action} b (cond d st.AfterCr st.StartRecord, y) (st.InField, z))).0 ≡ true
in_field_outside true b d x y z = refl
in_field_outside false true true x y z = refl
in_field_outside false true false x y z = refl
in_field_outside false false d x y z = refl

field_outside : (separator c : ℕ) → outside (in_field (form separator) c).0 ≡ true
field_outside separator c = in_field_outside (c == separator) ((c == 13) || (c == 10)) (c == 13) _ _ _

chosen_outside : (b : Bool) (x y : State × Action) → outside x.0 ≡ true → outside y.0 ≡ true → outside (cond {A = State × Action} b x y).0 ≡ true
chosen_outside true x y left right = left
chosen_outside false x y left right = right

stays_outside : (separator : ℕ) (s : State) (c : ℕ) → (c == 34) ≡ false → outside s ≡ true → outside (step (form separator) s c).0 ≡ true
stays_outside separator st.StartRecord c other h = rw other (chosen_outside ((c == 13) || (c == 10)) _ _ refl (field_outside separator c))
stays_outside separator st.StartField c other h = rw other (field_outside separator c)
stays_outside separator st.InField c other h = field_outside separator c
stays_outside separator st.AfterCr c other h = rw other (chosen_outside (c == 10) _ _ refl (chosen_outside ((c == 13) || (c == 10)) _ _ refl (field_outside separator c)))
stays_outside separator st.InQuoted c other h = cc h
stays_outside separator st.AfterQuote c other h = cc h
stays_outside separator st.InEscape c other h = cc h
stays_outside separator st.InComment c other h = cc h

not_quoted : (s : State) → outside s ≡ true → is_quoted s ≡ false
not_quoted st.InQuoted h = cc h
not_quoted st.AfterQuote h = cc h
not_quoted _ h = refl

-- no field stands in quotes
abbrev AreBare : List Bool → Type 0
AreBare [] = Unit {0}
AreBare (q ∷ qs) = (q ≡ false) × AreBare qs

bare_after : (e : Bool) (q : Bool) (qs : List Bool) → q ≡ false → AreBare qs → AreBare (if e then q ∷ qs else qs)
bare_after true q qs is bare = (is, bare)
bare_after false q qs is bare = bare

bare_marks : (separator : ℕ) (s : State) (xs : List ℕ) → outside s ≡ true → list_any (λ y. y == 34) xs ≡ false → AreBare (marks_from (form separator) s xs)
unfolding marks_from
bare_marks separator s [] h none = bare_after (ends_at_end s) (is_quoted s) [] (not_quoted s h) tt
bare_marks separator s (c ∷ xs) h none =
    let p = or_parts (c == 34) (list_any (λ y. y == 34) xs) none in
    bare_after (ends_field (step (form separator) s c).1) (is_quoted s) _ (not_quoted s h)
    (bare_marks separator (step (form separator) s c).0 xs (stays_outside separator s c p.0 h) p.1)

bare_drop : (n : ℕ) (qs : List Bool) → AreBare qs → AreBare (drop n qs)
bare_drop zero qs h = h
bare_drop (suc n) [] h = tt
bare_drop (suc n) (q ∷ qs) h = bare_drop n qs h.1

bare_marked : (qs : List Bool) (l : Line) → AreBare qs → marked_fields [] l ≡ marked_fields qs l
bare_marked qs [] h = refl
bare_marked [] (s ∷ ss) h = refl
bare_marked (q ∷ qs) (s ∷ ss) h = rw (h.0, bare_marked qs ss h.1) refl

no_bytes : (n : ℕ) → drop {A = Bool} n [] ≡ []
no_bytes zero = refl
no_bytes (suc n) = refl

none_behind : (b : Bool) (x y z : ℕ) (rest : List ℕ) → list_any (λ y. y == 34) (x ∷ y ∷ z ∷ rest) ≡ false → list_any (λ y. y == 34) (if b then rest else x ∷ y ∷ z ∷ rest) ≡ false
none_behind true x y z rest h = (or_parts (z == 34) _ (or_parts (y == 34) _ (or_parts (x == 34) _ h).1).1).1
none_behind false x y z rest h = h

pub none_stripped : (xs : List ℕ) → list_any (λ y. y == 34) xs ≡ false → list_any (λ y. y == 34) (strip_bom xs) ≡ false
unfolding strip_bom
none_stripped [] h = h
none_stripped (x ∷ []) h = h
none_stripped (x ∷ y ∷ []) h = h
none_stripped (x ∷ y ∷ z ∷ rest) h = none_behind (is_bom x y z) x y z rest h

-- a text without a quote has no field in quotes
pub no_marks : (separator : ℕ) (xs : List ℕ) → has_quote xs ≡ false → MarkAlike [] (marks_of separator xs)
unfolding marks_of
no_marks separator xs none n l =
    let bare = bare_drop n (marks_of separator xs) (bare_marks separator st.StartRecord (strip_bom xs) refl (none_stripped xs none)) in
    rw (no_bytes n) (bare_marked (drop n (marks_of separator xs)) l bare)

not_quote : (b : Bool) → (b ≡ true → ⊥) → b ≡ false
not_quote true h = absurd (h refl)
not_quote false h = refl

-- the search for a quote
pub quote_found : (xs : List ℕ) (r : Option ℕ) → IsFirstByte (is_byte 34) xs r → is_some r ≡ has_quote xs
quote_found xs None h =
    sym (list_any_none (λ y. y == 34) xs (λ k d low. not_quote (get_or xs k d == 34) (λ e. h k (omega arith) low (subst (λ (n : ℕ). (n == 34) ≡ true) (get_or_default xs k d 0 low) e))))
quote_found xs (Some k) h = sym (list_any_at (λ y. y == 34) xs k 0 h.0.high h.1)

-- a byte-order mark at the front
pub stripped : (xs : List ℕ) → has_mark xs ≡ true → take (length xs - 3) (drop 3 xs) ≡ strip_bom xs
unfolding strip_bom
stripped [] h = cc
stripped (x ∷ []) h = cc h
stripped (x ∷ y ∷ []) h = cc h
stripped (x ∷ y ∷ z ∷ rest) h =
    let size : length (x ∷ y ∷ z ∷ rest) - 3 ≡ length rest = omega arith in
    rw (size, h) (take_all (length rest) rest (omega arith))

pub kept : (xs : List ℕ) → has_mark xs ≡ false → xs ≡ strip_bom xs
unfolding strip_bom
kept [] h = refl
kept (x ∷ []) h = refl
kept (x ∷ y ∷ []) h = refl
kept (x ∷ y ∷ z ∷ rest) h = rw h refl

pub mark_of : (xs : List ℕ) → 3 ≤ length xs → has_mark xs ≡ is_bom (get_or xs 0 0) (get_or xs 1 0) (get_or xs 2 0)
mark_of [] long = absurd (omega (arith, long))
mark_of (x ∷ []) long = absurd (omega (arith, long))
mark_of (x ∷ y ∷ []) long = absurd (omega (arith, long))
mark_of (x ∷ y ∷ z ∷ rest) long = refl

-- OPEN QUOTES

bare_behind : (separator : ℕ) (s : State) (xs : List ℕ) → outside s ≡ true → list_any (λ y. y == 34) xs ≡ false → outside (state_behind (form separator) s xs) ≡ true
unfolding state_behind
bare_behind separator s [] h none = h
bare_behind separator s (c ∷ xs) h none =
    let p = or_parts (c == 34) (list_any (λ y. y == 34) xs) none in
    bare_behind separator (step (form separator) s c).0 xs (stays_outside separator s c p.0 h) p.1

not_open : (s : State) → outside s ≡ true → is_open s ≡ false
not_open st.InQuoted h = cc h
not_open _ h = refl

-- a text without a quote has no open one
pub no_open_quote : (separator : ℕ) (xs : List ℕ) → has_quote xs ≡ false → has_open_quote separator xs ≡ false
unfolding has_open_quote
no_open_quote separator xs none = not_open _ (bare_behind separator st.StartRecord (strip_bom xs) refl (none_stripped xs none))
