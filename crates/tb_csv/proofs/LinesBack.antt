-- What is written as records reads back as them.
use Rattle.std.proofs.Common.{◌≡◌, ◌==◌, ◌≤◌, ◌++◌, ◌∷◌, ◌∙◌, [], ℕ, zero, suc, List, Bool, true, false, Some, None, drop, length, map, refl, sym, ap, arith, subst, append_assoc, inl, inr}
use Rattle.std.specs.Prelude.{◌||◌}
use Rattle.std.specs.List.{All, flat_map, list_any}
use Rattle.std.proofs.lemmas.Bool.{cases_Bool, eqb-true}
use Rattle.std.proofs.lemmas.List.Elements.{All-head, All-tail}
use Rattle.csv.proofs.RoundTrip.{after-quote-same, field-run, record-same, start-same}
use Rattle.csv.specs.Machine.{next_record}
use Rattle.csv.specs.Reading.{default_config, records_from}
use Rattle.csv.specs.Writing.{default_writer, escaped, needs_byte}
use Rattle.csv.specs.declared.parser.State.{State}
use Rattle.csv.specs.declared.parser.State.TheVariants as st
use Rattle.tb_csv.specs.Promise.Records.{Field, Line, Record, bytes_of, field, line_of, marked_fields, marked_records, marks_from}
use Rattle.tb_csv.specs.Promise.Texts.{field_text, line_text, record_text, records_text}
use Rattle.tb_csv.proofs.Truth.{not_true, or_parts}

-- a record whose line has a byte
abbrev pub Shows : Record → Type 0
Shows [] = ⊥
Shows (None ∷ []) = ⊥
Shows (Some s ∷ []) = Unit {0}
Shows (f ∷ g ∷ fs) = Unit {0}

-- THE START OF A RECORD

-- a byte that calls for no quotes is no mark of the format
pub plain_byte : (b : ℕ) → needs_byte default_writer b ≡ false → ((b == 44) ≡ false) × ((b == 34) ≡ false) × ((b == 13) ≡ false) × ((b == 10) ≡ false)
plain_byte b e =
    let a = not_true (b == 44) (λ t. cc (rw t at e)) in
    let q = not_true (b == 34) (λ t. cc (rw (a, t) at e)) in
    let r = not_true (b == 13) (λ t. cc (rw (a, q, t) at e)) in
    let n = not_true (b == 10) (λ t. cc (rw (a, q, r, t) at e)) in
    (a, q, r, n)

-- a text whose first byte ends no line
abbrev pub Begins : List ℕ → Type 0
Begins [] = ⊥
Begins (b ∷ bs) = ((b == 13) ≡ false) × ((b == 10) ≡ false)

field_begins : (b : ℕ) (bs tail : List ℕ) → Begins (field_text 44 (Some (b ∷ bs)) ++ tail)
field_begins b bs tail = elim (cases_Bool (list_any (needs_byte default_writer) (b ∷ bs))) [
  | inl needs ↦ rw needs (refl, refl)
  | inr plain ↦ let p = plain_byte b (or_parts (needs_byte default_writer b) _ plain).0 in rw plain (p.2, p.3)
]

pub begins : (r : Record) (tail : List ℕ) → Shows r → Begins (line_text 44 r ++ tail)
begins [] tail h = absurd h
begins (None ∷ []) tail h = absurd h
begins (None ∷ g ∷ fs) tail h = (refl, refl)
begins (Some [] ∷ fs) tail h = (refl, refl)
begins (Some (b ∷ bs) ∷ fs) tail h =
    subst Begins (sym (append_assoc (field_text 44 (Some (b ∷ bs))) (flat_map (λ g. 44 ∷ field_text 44 g) fs) tail)) (field_begins b bs (flat_map (λ g. 44 ∷ field_text 44 g) fs ++ tail))

record_start : (xs : List ℕ) → Begins xs → next_record default_config st.StartRecord [] [] xs ≡ next_record default_config st.StartField [] [] xs
record_start [] h = absurd h
record_start (b ∷ bs) h = record-same [] [] b bs h.0 h.1

marks_start : (xs : List ℕ) → Begins xs → marks_from default_config st.StartRecord xs ≡ marks_from default_config st.StartField xs
unfolding marks_from
marks_start [] h = absurd h
marks_start (b ∷ bs) h =
    let r = h.0 in
    let n = h.1 in
    rw (r, n) refl

-- THE BYTES OF A RECORD

field_run : (fields : Line) (f : Field) (c : ℕ) (tail : List ℕ) → (c == 34) ≡ false
    → next_record default_config st.StartField fields [] (field_text 44 f ++ c ∷ tail) ≡ next_record default_config st.InField fields (bytes_of f) (c ∷ tail)
unfolding next_record escaped
field_run fields None c tail n = start-same fields [] c tail n
field_run fields (Some []) c tail n = after-quote-same fields [] c tail n
field_run fields (Some (b ∷ bs)) c tail n = field-run fields (b ∷ bs) c tail n

abbrev pub separated : Record → List ℕ
separated fs = flat_map (λ (g : Field). 44 ∷ field_text 44 g) fs

-- what comes behind a field
abbrev pub head_of : Record → ℕ
head_of [] = 10
head_of (g ∷ fs) = 44

abbrev pub tail_of : Record → List ℕ → List ℕ
tail_of [] tail = tail
tail_of (g ∷ fs) tail = line_text 44 (g ∷ fs) ++ 10 ∷ tail

behind : (fs : Record) (tail : List ℕ) → separated fs ++ 10 ∷ tail ≡ head_of fs ∷ tail_of fs tail
behind [] tail = refl
behind (g ∷ fs) tail = refl

pub split_line : (f : Field) (fs : Record) (tail : List ℕ) → line_text 44 (f ∷ fs) ++ 10 ∷ tail ≡ field_text 44 f ++ (head_of fs ∷ tail_of fs tail)
split_line f fs tail = append_assoc (field_text 44 f) (separated fs) (10 ∷ tail) ∙ ap (λ (t : List ℕ). field_text 44 f ++ t) (behind fs tail)

-- the fields from one on
line_run : (fields : Line) (f : Field) (fs : Record) (tail : List ℕ)
    → next_record default_config st.StartField fields [] (line_text 44 (f ∷ fs) ++ 10 ∷ tail) ≡ Some (fields ++ line_of (f ∷ fs), st.StartRecord, tail)
unfolding next_record
line_run fields f [] tail = ap (next_record default_config st.StartField fields []) (split_line f [] tail) ∙ field_run fields f 10 tail refl
line_run fields f (g ∷ fs) tail =
    ap (next_record default_config st.StartField fields []) (split_line f (g ∷ fs) tail) ∙ field_run fields f 44 _ refl
    ∙ line_run (fields ++ bytes_of f ∷ []) g fs tail ∙ rw (append_assoc fields (bytes_of f ∷ []) (line_of (g ∷ fs))) refl

record_run : (r : Record) (tail : List ℕ) → Shows r → next_record default_config st.StartRecord [] [] (record_text 44 r ++ tail) ≡ Some (line_of r, st.StartRecord, tail)
record_run [] tail h = absurd h
record_run (f ∷ fs) tail h =
    ap (next_record default_config st.StartRecord [] []) (append_assoc (line_text 44 (f ∷ fs)) (10 ∷ []) tail)
    ∙ record_start _ (begins (f ∷ fs) (10 ∷ tail) h) ∙ line_run [] f fs tail

-- more turns than there are records find no more
pub lines_run : (rs : List Record) (n : ℕ) → length rs ≤ n → All Shows rs → records_from default_config n st.StartRecord (records_text 44 rs) ≡ map line_of rs
unfolding records_from next_record
lines_run [] zero h all = refl
lines_run [] (suc n) h all = refl
lines_run (r ∷ rs) zero h all = absurd (omega (arith, h))
lines_run (r ∷ rs) (suc n) h all =
    rw (record_run r (records_text 44 rs) (All-head Shows r rs all)) (ap (λ (ls : List Line). line_of r ∷ ls) (lines_run rs n (omega (arith, h)) (All-tail Shows r rs all)))

-- ITS MARKS

abbrev mark_of : Field → Bool
mark_of None = false
mark_of (Some []) = true
mark_of (Some (c ∷ cs)) = list_any (needs_byte default_writer) (c ∷ cs)

plain_marks : (x tail : List ℕ) → list_any (needs_byte default_writer) x ≡ false → marks_from default_config st.InField (x ++ tail) ≡ marks_from default_config st.InField tail
unfolding marks_from
plain_marks [] tail e = refl
plain_marks (b ∷ rest) tail e =
    let p = or_parts (needs_byte default_writer b) _ e in
    let q = plain_byte b p.0 in rw (q.0, q.2, q.3) (plain_marks rest tail p.1)

quoted_marks : (x tail : List ℕ) → marks_from default_config st.InQuoted (escaped default_writer x ++ 34 ∷ tail) ≡ marks_from default_config st.AfterQuote tail
unfolding marks_from escaped
quoted_marks [] tail = refl
quoted_marks (b ∷ rest) tail = elim (cases_Bool (b == 34)) [
  | inl same ↦
      subst (λ (z : ℕ). marks_from default_config st.InQuoted (escaped default_writer (z ∷ rest) ++ 34 ∷ tail) ≡ marks_from default_config st.AfterQuote tail)
      (sym (eqb-true b 34 same)) (quoted_marks rest tail)
  | inr other ↦ rw (other, other) (quoted_marks rest tail)
]

-- the byte behind a field, which is the last of its record or not
abbrev pub end_byte : Bool → ℕ
end_byte true = 10
end_byte false = 44

abbrev pub end_state : Bool → State
end_state true = st.StartRecord
end_state false = st.StartField

end_quoted : (last : Bool) (tail : List ℕ) → marks_from default_config st.AfterQuote (end_byte last ∷ tail) ≡ true ∷ marks_from default_config (end_state last) tail
unfolding marks_from
end_quoted true tail = refl
end_quoted false tail = refl

end_plain : (last : Bool) (tail : List ℕ) → marks_from default_config st.InField (end_byte last ∷ tail) ≡ false ∷ marks_from default_config (end_state last) tail
unfolding marks_from
end_plain true tail = refl
end_plain false tail = refl

field_marks : (last : Bool) (f : Field) (tail : List ℕ)
    → marks_from default_config st.StartField (field_text 44 f ++ end_byte last ∷ tail) ≡ mark_of f ∷ marks_from default_config (end_state last) tail
unfolding marks_from escaped
field_marks true None tail = refl
field_marks false None tail = refl
field_marks last (Some []) tail = end_quoted last tail
field_marks last (Some (c ∷ cs)) tail = elim (cases_Bool (list_any (needs_byte default_writer) (c ∷ cs))) [
  | inl needs ↦
      let text : field_text 44 (Some (c ∷ cs)) ++ end_byte last ∷ tail ≡ 34 ∷ (escaped default_writer (c ∷ cs) ++ 34 ∷ end_byte last ∷ tail) =
      rw needs (ap (λ (t : List ℕ). 34 ∷ t) (append_assoc (escaped default_writer (c ∷ cs)) (34 ∷ []) (end_byte last ∷ tail))) in
      ap (marks_from default_config st.StartField) text ∙ quoted_marks (c ∷ cs) (end_byte last ∷ tail) ∙ end_quoted last tail ∙ ap (λ b. b ∷ marks_from default_config (end_state last) tail) (sym needs)
  | inr plain ↦
      let text : field_text 44 (Some (c ∷ cs)) ++ end_byte last ∷ tail ≡ c ∷ (cs ++ end_byte last ∷ tail) = rw plain refl in
      let p = or_parts (needs_byte default_writer c) _ plain in
      let q = plain_byte c p.0 in
      let first : marks_from default_config st.StartField (c ∷ (cs ++ end_byte last ∷ tail)) ≡ marks_from default_config st.InField (cs ++ end_byte last ∷ tail) = rw (q.1, q.0, q.2, q.3) refl in
      ap (marks_from default_config st.StartField) text ∙ first ∙ plain_marks cs (end_byte last ∷ tail) p.1 ∙ end_plain last tail ∙ ap (λ b. b ∷ marks_from default_config (end_state last) tail) (sym plain)
]

line_marks : (f : Field) (fs : Record) (tail : List ℕ) → marks_from default_config st.StartField (line_text 44 (f ∷ fs) ++ 10 ∷ tail) ≡ map mark_of (f ∷ fs) ++ marks_from default_config st.StartRecord tail
line_marks f [] tail = ap (marks_from default_config st.StartField) (split_line f [] tail) ∙ field_marks true f tail
line_marks f (g ∷ fs) tail =
    ap (marks_from default_config st.StartField) (split_line f (g ∷ fs) tail) ∙ field_marks false f _ ∙ ap (λ (qs : List Bool). mark_of f ∷ qs) (line_marks g fs tail)

record_marks : (r : Record) (tail : List ℕ) → Shows r → marks_from default_config st.StartRecord (record_text 44 r ++ tail) ≡ map mark_of r ++ marks_from default_config st.StartRecord tail
record_marks [] tail h = absurd h
record_marks (f ∷ fs) tail h =
    ap (marks_from default_config st.StartRecord) (append_assoc (line_text 44 (f ∷ fs)) (10 ∷ []) tail)
    ∙ marks_start _ (begins (f ∷ fs) (10 ∷ tail) h) ∙ line_marks f fs tail

-- THE RECORDS

field_back : (f : Field) → field (mark_of f) (bytes_of f) ≡ f
field_back None = refl
field_back (Some []) = refl
field_back (Some (c ∷ cs)) = refl

marked_back : (r : Record) (qs : List Bool) → marked_fields (map mark_of r ++ qs) (line_of r) ≡ r
marked_back [] qs = refl
marked_back (f ∷ fs) qs = ap (λ g. g ∷ marked_fields (map mark_of fs ++ qs) (line_of fs)) (field_back f) ∙ ap (λ (gs : Record). f ∷ gs) (marked_back fs qs)

marks_behind : (r : Record) (qs : List Bool) → drop (length (line_of r)) (map mark_of r ++ qs) ≡ qs
marks_behind [] qs = refl
marks_behind (f ∷ fs) qs = marks_behind fs qs

pub records_run : (rs : List Record) → All Shows rs → marked_records (marks_from default_config st.StartRecord (records_text 44 rs)) (map line_of rs) ≡ rs
records_run [] all = refl
records_run (r ∷ rs) all =
    let rest = marks_from default_config st.StartRecord (records_text 44 rs) in
    let marks = record_marks r (records_text 44 rs) (All-head Shows r rs all) in
    rw (marks, marks_behind r rest) (ap (λ k. k ∷ marked_records rest (map line_of rs)) (marked_back r rest) ∙ ap (λ (ks : List Record). r ∷ ks) (records_run rs (All-tail Shows r rs all)))
