-- The quotes of what is written as records are closed.
use Rattle.std.proofs.Common.{◌≡◌, ◌==◌, ◌++◌, ◌∷◌, ◌∙◌, [], ℕ, List, Bool, true, false, Some, None, refl, sym, ap, subst, append_assoc, inl, inr}
use Rattle.std.specs.List.{All, list_any}
use Rattle.std.proofs.lemmas.Bool.{cases_Bool, eqb-true}
use Rattle.std.proofs.lemmas.List.Elements.{All-head, All-tail}
use Rattle.csv.specs.Machine.{step}
use Rattle.csv.specs.Reading.{default_config, strip_bom}
use Rattle.csv.specs.declared.parser.State.{State}
use Rattle.csv.specs.Writing.{default_writer, escaped, needs_byte}
use Rattle.csv.specs.declared.parser.State.TheVariants as st
use Rattle.tb_csv.specs.Promise.LineNumbers.{has_open_quote, is_open, state_behind}
use Rattle.tb_csv.specs.Promise.Records.{Field, Record}
use Rattle.tb_csv.specs.Promise.Texts.{field_text, line_text, record_text, records_text}
use Rattle.tb_csv.proofs.LinesBack.{Begins, Shows, begins, end_byte, end_state, plain_byte, split_line}
use Rattle.tb_csv.proofs.Truth.{or_parts}

-- one more byte
more : (s t : State) (c : ℕ) (rest : List ℕ) → (step default_config s c).0 ≡ t → state_behind default_config s (c ∷ rest) ≡ state_behind default_config t rest
unfolding state_behind
more s t c rest is = ap (λ (u : State). state_behind default_config u rest) is

start : (xs : List ℕ) → Begins xs → state_behind default_config st.StartRecord xs ≡ state_behind default_config st.StartField xs
unfolding state_behind
start [] h = absurd h
start (b ∷ bs) h =
    let r = h.0 in
    let n = h.1 in
    rw (r, n) refl

plain_state : (x tail : List ℕ) → list_any (needs_byte default_writer) x ≡ false → state_behind default_config st.InField (x ++ tail) ≡ state_behind default_config st.InField tail
unfolding state_behind
plain_state [] tail e = refl
plain_state (b ∷ rest) tail e =
    let p = or_parts (needs_byte default_writer b) _ e in
    let q = plain_byte b p.0 in
    let here : (step default_config st.InField b).0 ≡ st.InField = rw (q.0, q.2, q.3) refl in
    more st.InField st.InField b (rest ++ tail) here ∙ plain_state rest tail p.1

quoted_state : (x tail : List ℕ) → state_behind default_config st.InQuoted (escaped default_writer x ++ 34 ∷ tail) ≡ state_behind default_config st.AfterQuote tail
unfolding state_behind escaped
quoted_state [] tail = refl
quoted_state (b ∷ rest) tail = elim (cases_Bool (b == 34)) [
  | inl same ↦
      subst (λ (z : ℕ). state_behind default_config st.InQuoted (escaped default_writer (z ∷ rest) ++ 34 ∷ tail) ≡ state_behind default_config st.AfterQuote tail)
      (sym (eqb-true b 34 same)) (quoted_state rest tail)
  | inr other ↦
      let text : escaped default_writer (b ∷ rest) ++ 34 ∷ tail ≡ b ∷ (escaped default_writer rest ++ 34 ∷ tail) = rw other refl in
      let here : (step default_config st.InQuoted b).0 ≡ st.InQuoted = rw other refl in
      ap (state_behind default_config st.InQuoted) text ∙ more st.InQuoted st.InQuoted b (escaped default_writer rest ++ 34 ∷ tail) here ∙ quoted_state rest tail
]

end_quoted : (last : Bool) (tail : List ℕ) → state_behind default_config st.AfterQuote (end_byte last ∷ tail) ≡ state_behind default_config (end_state last) tail
unfolding state_behind
end_quoted true tail = refl
end_quoted false tail = refl

end_plain : (last : Bool) (tail : List ℕ) → state_behind default_config st.InField (end_byte last ∷ tail) ≡ state_behind default_config (end_state last) tail
unfolding state_behind
end_plain true tail = refl
end_plain false tail = refl

field_state : (last : Bool) (f : Field) (tail : List ℕ)
    → state_behind default_config st.StartField (field_text 44 f ++ end_byte last ∷ tail) ≡ state_behind default_config (end_state last) tail
unfolding state_behind escaped
field_state true None tail = refl
field_state false None tail = refl
field_state last (Some []) tail = end_quoted last tail
field_state last (Some (c ∷ cs)) tail = elim (cases_Bool (list_any (needs_byte default_writer) (c ∷ cs))) [
  | inl needs ↦
      let text : field_text 44 (Some (c ∷ cs)) ++ end_byte last ∷ tail ≡ 34 ∷ (escaped default_writer (c ∷ cs) ++ 34 ∷ end_byte last ∷ tail) =
      rw needs (ap (λ (t : List ℕ). 34 ∷ t) (append_assoc (escaped default_writer (c ∷ cs)) (34 ∷ []) (end_byte last ∷ tail))) in
      ap (state_behind default_config st.StartField) text ∙ quoted_state (c ∷ cs) (end_byte last ∷ tail) ∙ end_quoted last tail
  | inr plain ↦
      let text : field_text 44 (Some (c ∷ cs)) ++ end_byte last ∷ tail ≡ c ∷ (cs ++ end_byte last ∷ tail) = rw plain refl in
      let p = or_parts (needs_byte default_writer c) _ plain in
      let q = plain_byte c p.0 in
      let here : (step default_config st.StartField c).0 ≡ st.InField = rw (q.1, q.0, q.2, q.3) refl in
      let first = more st.StartField st.InField c (cs ++ end_byte last ∷ tail) here in
      ap (state_behind default_config st.StartField) text ∙ first ∙ plain_state cs (end_byte last ∷ tail) p.1 ∙ end_plain last tail
]

line_state : (f : Field) (fs : Record) (tail : List ℕ) → state_behind default_config st.StartField (line_text 44 (f ∷ fs) ++ 10 ∷ tail) ≡ state_behind default_config st.StartRecord tail
line_state f [] tail = ap (state_behind default_config st.StartField) (split_line f [] tail) ∙ field_state true f tail
line_state f (g ∷ fs) tail =
    ap (state_behind default_config st.StartField) (split_line f (g ∷ fs) tail) ∙ field_state false f _ ∙ line_state g fs tail

record_state : (r : Record) (tail : List ℕ) → Shows r → state_behind default_config st.StartRecord (record_text 44 r ++ tail) ≡ state_behind default_config st.StartRecord tail
record_state [] tail h = absurd h
record_state (f ∷ fs) tail h =
    ap (state_behind default_config st.StartRecord) (append_assoc (line_text 44 (f ∷ fs)) (10 ∷ []) tail)
    ∙ start _ (begins (f ∷ fs) (10 ∷ tail) h) ∙ line_state f fs tail

records_state : (rs : List Record) → All Shows rs → state_behind default_config st.StartRecord (records_text 44 rs) ≡ st.StartRecord
unfolding state_behind
records_state [] all = refl
records_state (r ∷ rs) all = record_state r (records_text 44 rs) (All-head Shows r rs all) ∙ records_state rs (All-tail Shows r rs all)

-- the text of records has no open quote
pub closed_text : (rs : List Record) (x : List ℕ) → All Shows rs → x ≡ records_text 44 rs → strip_bom x ≡ x → has_open_quote 44 x ≡ false
unfolding has_open_quote
closed_text rs x all is front = rw (front, is) (ap is_open (records_state rs all))
