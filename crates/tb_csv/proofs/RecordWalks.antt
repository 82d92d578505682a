-- Walks over the fields of a record.
use Rattle.std.proofs.Common.{◌≡◌, ◌<◌, ◌+◌, ◌*◌, ◌≤◌, ◌∷◌, ◌++◌, ◌∙◌, [], ℕ, zero, suc, List, Bool, true, false, Option, Some, None, length, map, take, get_or, refl, sym, ap, arith, Bor, Result, Ok, Err, inl, inr, append_assoc, subst, not, ◌==◌, ◌⊎◌}
use Rattle.std.specs.List.{All, list_all, range_with_len}
use Rattle.std.specs.Prelude.{IfSome, IfNone, MatchResult}
use Rattle.std.specs.Result.{result_ok}
use Rattle.std.specs.Str.{IsUtf8, is_utf8}
use Rattle.std.proofs.lemmas.Bool.{cases_Bool, eqb-true}
use Rattle.std.proofs.lemmas.Str.{IsUtf8-from_is_utf8, is_utf8-from_IsUtf8}
use Rattle.std.proofs.lemmas.List.{append-nil, get_or-append-add, get_or_append_left, length-append}
use Rattle.std.proofs.lemmas.List.Elements.{All-cons, All-head, All-nil, All-tail}
use Rattle.std.proofs.lemmas.List.{take_all, take_more}
use Rattle.std.proofs.lemmas.List.Folds.{list_all_at, list_all_more}
use Rattle.csv.specs.Records.{field_at}
use Rattle.tb_value.specs.Promise.Pairs.{row_numbers}
use Rattle.tb_value.specs.Promise.Refusals.{first_cause, when}
use Rattle.tb_csv.specs.Promise.Faults.{row_fault, rows_fault}
use Rattle.tb_csv.specs.Read.{all_fields}
use Rattle.tb_csv.specs.Promise.Records.{Field, Line, Record, column_fields, is_text}
use Rattle.tb_csv.specs.declared.fault.CsvFault.{CsvFault}
use Rattle.tb_csv.specs.declared.fault.CsvFault.TheVariants.{FieldCount, NotUtf8, OutOfMemory}

pub place : (fs : List (List ℕ)) (i : ℕ) (x : List ℕ) → Some x ≡ field_at fs i → i < length fs
unfolding field_at
place [] i x e = cc
place (f ∷ fs) zero x e = omega arith
place (f ∷ fs) (suc i) x e = let h = place fs i x e in omega arith

pub found : (fs : List (List ℕ)) (i : ℕ) (x d : List ℕ) → Some x ≡ field_at fs i → get_or fs i d ≡ x
unfolding field_at
found [] i x d e = cc
found (f ∷ fs) zero x d e = cc
found (f ∷ fs) (suc i) x d e = found fs i x d e

pub past : (fs : List (List ℕ)) (i : ℕ) → None ≡ field_at fs i → length fs ≤ i
unfolding field_at
past [] i e = omega arith
past (f ∷ fs) zero e = cc
past (f ∷ fs) (suc i) e = let h = past fs i e in omega arith

pub take_next : (fs : List (List ℕ)) (i : ℕ) (x : List ℕ) → Some x ≡ field_at fs i → take (i + 1) fs ≡ take i fs ++ x ∷ []
take_next fs i x e = take_more fs i [] (place fs i x e) ∙ ap (λ (y : List ℕ). take i fs ++ y ∷ []) (found fs i x [] e)

pub take_end : (fs : List (List ℕ)) (i : ℕ) → None ≡ field_at fs i → take i fs ≡ fs
take_end fs i e = take_all i fs (past fs i e)

pub text_next : (p : List ℕ → Bool) (fs : List (List ℕ)) (i : ℕ) (x : List ℕ) → Some x ≡ field_at fs i → p x ≡ true → list_all p (take i fs) ≡ true → list_all p (take (i + 1) fs) ≡ true
text_next p fs i x e t all = list_all_more p fs i [] (place fs i x e) ∙ rw (found fs i x [] e, t, all) refl

pub text_fails : (p : List ℕ → Bool) (fs : List (List ℕ)) (i : ℕ) (x : List ℕ) → Some x ≡ field_at fs i → p x ≡ false → list_all p fs ≡ false
text_fails p fs i x e t = list_all_at p fs i [] (place fs i x e) (ap p (found fs i x [] e) ∙ t)

-- a text, if the bytes are UTF-8
pub text_cases : {E : Type 0} (r : Result (Bor (List ℕ)) E) (bs : List ℕ) (P : E → Type 0) (o : Option (Bor (List ℕ)))
    → MatchResult r (λ s. (s.now ≡ bs) × IsUtf8 bs) (λ e. ¬ (IsUtf8 bs) × P e) → o ≡ result_ok r
    → IfSome o (λ s. (s.now ≡ bs) × (is_utf8 bs ≡ true)) × IfNone o (is_utf8 bs ≡ false)
text_cases (Ok s) bs P o h e = rw e ((h.0, is_utf8-from_IsUtf8 bs h.1), tt)
text_cases (Err x) bs P o h e = rw e (tt, elim (cases_Bool (is_utf8 bs)) [ inl t ↦ absurd (h.0 (IsUtf8-from_is_utf8 bs t)) | inr f ↦ f ])

-- one more field is appended
pub texts_more : (fs first old new : List (List ℕ)) (i j : ℕ) (x y : List ℕ) → Some x ≡ field_at fs i → j ≡ i + 1 → y ≡ x → is_utf8 x ≡ true → new ≡ old ++ y ∷ []
    → old ≡ first ++ take i fs → list_all is_utf8 (take i fs) ≡ true → (new ≡ first ++ take j fs) × (list_all is_utf8 (take j fs) ≡ true)
texts_more fs first old new i j x y at next same text push so_far all =
    let grown : first ++ take (i + 1) fs ≡ (first ++ take i fs) ++ x ∷ [] = ap (λ (l : List (List ℕ)). first ++ l) (take_next fs i x at) ∙ sym (append_assoc first (take i fs) (x ∷ [])) in
    (rw (next, push, so_far, same) (sym grown), rw next (text_next is_utf8 fs i x at text all))

pub mul_more : (k w : ℕ) → (k + 1) * w ≡ k * w + w
mul_more k w = omega arith

-- FIELDS THAT STAND ROW BY ROW

placed : (rows : List Record) (front : List Field) (k w j : ℕ) → j < w → length front ≡ k * w → All (λ (r : Record). length r ≡ w) rows
    → map (λ i. get_or (front ++ all_fields rows) (i * w + j) None) (range_with_len k (length rows)) ≡ column_fields rows j
placed [] front k w j h e all = refl
placed (r ∷ rs) front k w j h e all =
    let wide : length r ≡ w = All-head (λ (r : Record). length r ≡ w) r rs all in
    let head : get_or (front ++ (r ++ all_fields rs)) (k * w + j) None ≡ get_or r j None =
    ap (λ n. get_or (front ++ (r ++ all_fields rs)) (n + j) None) (sym e)
    ∙ get_or-append-add front (r ++ all_fields rs) j None ∙ get_or_append_left r (all_fields rs) None j (rw wide h) in
    let size : length (front ++ r) ≡ (k + 1) * w = length-append front r ∙ rw (e, wide) (omega (arith, mul_more k w)) in
    let rest = placed rs (front ++ r) (k + 1) w j h size (All-tail (λ (r : Record). length r ≡ w) r rs all) in
    let more = subst (λ (l : List Field). map (λ i. get_or l (i * w + j) None) (range_with_len (k + 1) (length rs)) ≡ column_fields rs j) (append_assoc front r (all_fields rs)) rest in
    ap (λ (x : Field). x ∷ map (λ i. get_or (front ++ (r ++ all_fields rs)) (i * w + j) None) (range_with_len (k + 1) (length rs))) head ∙ ap (λ (l : List Field). get_or r j None ∷ l) more

pub in_column : (rows : List Record) (w j : ℕ) → j < w → All (λ (r : Record). length r ≡ w) rows
    → map (λ i. get_or (all_fields rows) (i * w + j) None) (row_numbers (length rows)) ≡ column_fields rows j
in_column rows w j h all =
    let none : 0 ≡ 0 * w = omega arith in placed rows [] 0 w j h none all

-- ROWS WITHOUT A FAULT

first_some : (a b : Option CsvFault) (e : CsvFault) → a ≡ Some e → first_cause (a ∷ b ∷ []) ≡ Some e
first_some None b e h = cc h
first_some (Some x) b e h = h

pub first_skip : (a b : Option CsvFault) → a ≡ None → first_cause (a ∷ b ∷ []) ≡ b
first_skip None None h = refl
first_skip None (Some e) h = refl
first_skip (Some x) b h = cc h

first_none : (a b : Option CsvFault) → first_cause (a ∷ b ∷ []) ≡ None → (a ≡ None) × (b ≡ None)
first_none None None h = (refl, refl)
first_none None (Some e) h = cc h
first_none (Some x) b h = cc h

when_none : (b : Bool) (e : CsvFault) → when (not b) e ≡ None → b ≡ true
when_none true e h = refl
when_none false e h = cc h

-- the fault of a row after rows without one
pub fault_after : (w i : ℕ) (done : List Line) (r : Line) (rs : List Line) (e : CsvFault) → rows_fault w i done ≡ None → row_fault w (i + length done) r ≡ Some e
    → rows_fault w i (done ++ r ∷ rs) ≡ Some e
fault_after w i [] r rs e none h =
    let at : i + length {A = Line} [] ≡ i = omega arith in
    first_some (row_fault w i r) (rows_fault w (i + 1) rs) e (subst (λ (n : ℕ). row_fault w n r ≡ Some e) at h)
fault_after w i (d ∷ ds) r rs e none h =
    let both = first_none (row_fault w i d) (rows_fault w (i + 1) ds) none in
    let at : i + suc (length ds) ≡ (i + 1) + length ds = omega arith in
    first_skip (row_fault w i d) (rows_fault w (i + 1) (ds ++ r ∷ rs)) both.0
    ∙ fault_after w (i + 1) ds r rs e both.1 (subst (λ (n : ℕ). row_fault w n r ≡ Some e) at h)

-- one more row without one
pub none_after : (w i : ℕ) (done : List Line) (r : Line) → rows_fault w i done ≡ None → row_fault w (i + length done) r ≡ None → rows_fault w i (done ++ r ∷ []) ≡ None
none_after w i [] r none h =
    let at : i + length {A = Line} [] ≡ i = omega arith in
    first_skip (row_fault w i r) None (subst (λ (n : ℕ). row_fault w n r ≡ None) at h)
none_after w i (d ∷ ds) r none h =
    let both = first_none (row_fault w i d) (rows_fault w (i + 1) ds) none in
    let at : i + suc (length ds) ≡ (i + 1) + length ds = omega arith in
    first_skip (row_fault w i d) (rows_fault w (i + 1) (ds ++ r ∷ [])) both.0
    ∙ none_after w (i + 1) ds r both.1 (subst (λ (n : ℕ). row_fault w n r ≡ None) at h)

pub level_rows : (w i : ℕ) (rows : List Line) → rows_fault w i rows ≡ None → All (λ (r : Line). length r ≡ w) rows
level_rows w i [] none = All-nil (λ (r : Line). length r ≡ w)
level_rows w i (r ∷ rs) none =
    let both = first_none (row_fault w i r) (rows_fault w (i + 1) rs) none in
    let wide = first_none (when (not (length r == w)) (FieldCount i w (length r))) (when (not (is_text r)) (NotUtf8 i)) both.0 in
    All-cons (λ (r : Line). length r ≡ w) r rs (eqb-true (length r) w (when_none (length r == w) (FieldCount i w (length r)) wide.0)) (level_rows w (i + 1) rs both.1)

all_push : (done : List Line) (r : Line) → all_fields (done ++ r ∷ []) ≡ all_fields done ++ r
all_push [] r = append-nil r
all_push (d ∷ ds) r = ap (λ (l : List (List ℕ)). d ++ l) (all_push ds r) ∙ sym (append_assoc d (all_fields ds) r)

-- what the rows before a turn add to
pub all_more : (done : List Line) (r : Line) (first old new : List (List ℕ)) → new ≡ old ++ r → old ≡ first ++ all_fields done → new ≡ first ++ all_fields (done ++ r ∷ [])
all_more done r first old new push so_far =
    push ∙ ap (λ (l : List (List ℕ)). l ++ r) so_far ∙ append_assoc first (all_fields done) r ∙ ap (λ (l : List (List ℕ)). first ++ l) (sym (all_push done r))

-- a row that has a fault, and one that has none, in a walk over rows
pub row_stops : (w turn : ℕ) (done rest records : List Line) (r : Line) (others : List Line) (e : CsvFault) → records ≡ done ++ rest → rest ≡ r ∷ others → length done ≡ turn
    → rows_fault w 1 done ≡ None → (e ≡ OutOfMemory) ⊎ (row_fault w (turn + 1) r ≡ Some e) → (e ≡ OutOfMemory) ⊎ (rows_fault w 1 records ≡ Some e)
row_stops w turn done rest records r others e is next count none (inl m) = inl m
row_stops w turn done rest records r others e is next count none (inr h) =
    let at : turn + 1 ≡ 1 + length done = omega (arith, count) in
    inr (rw (is, next) (fault_after w 1 done r others e none (subst (λ (n : ℕ). row_fault w n r ≡ Some e) at h)))

pub row_passes : (w turn : ℕ) (done : List Line) (r : Line) → length done ≡ turn → rows_fault w 1 done ≡ None → row_fault w (turn + 1) r ≡ None → rows_fault w 1 (done ++ r ∷ []) ≡ None
row_passes w turn done r count none h =
    let at : turn + 1 ≡ 1 + length done = omega (arith, count) in
    none_after w 1 done r none (subst (λ (n : ℕ). row_fault w n r ≡ None) at h)

pub row_split : (done rest records : List Line) (r : Line) (others : List Line) → records ≡ done ++ rest → rest ≡ r ∷ others → records ≡ (done ++ r ∷ []) ++ others
row_split done rest records r others is next = is ∙ rw next (sym (append_assoc done (r ∷ []) others))

-- the fields of the rows, and of a column of them
pub full_rows : (rows : List Line) (w : ℕ) → All (λ (r : Line). length r ≡ w) rows → length (all_fields rows) ≡ length rows * w
full_rows [] w all = let none : 0 ≡ 0 * w = omega arith in none
full_rows (r ∷ rs) w all =
    let wide : length r ≡ w = All-head (λ (r : Line). length r ≡ w) r rs all in
    let more = full_rows rs w (All-tail (λ (r : Line). length r ≡ w) r rs all) in
    let count : suc (length rs) * w ≡ length rs * w + w = omega arith in
    length-append r (all_fields rs) ∙ omega (arith, wide, more, count)

pub column_of : (fields : List Field) (rows : List Record) (height width w j turn : ℕ) → fields ≡ all_fields rows → height ≡ length rows → All (λ (r : Record). length r ≡ w) rows
    → width ≡ w → j < w → turn ≡ height → map (λ i. get_or fields (i * width + j) None) (row_numbers turn) ≡ column_fields rows j
column_of fields rows height width w j turn are high all wide low end = rw (end, high, are, wide) (in_column rows w j low all)
