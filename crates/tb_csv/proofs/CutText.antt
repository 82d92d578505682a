-- A text that is cut before a line feed outside quotes.
use Rattle.std.proofs.Common.{◌≡◌, ◌≢◌, ◌==◌, ◌≤◌, ◌+◌, ◌-◌, ◌++◌, ◌∷◌, ◌∙◌, [], ℕ, zero, suc, List, Bool, true, false, Option, Some, None, cond, drop, length, refl, sym, ap, arith}
use Rattle.std.specs.Prelude.{◌||◌, ◌&&◌}
use Rattle.std.proofs.lemmas.Bool.{eqb-true}
use Rattle.std.proofs.lemmas.List.{length-append}
use Rattle.csv.specs.Machine.{Read, ends_at_end, field_after, fields_after, in_field, is_end, line_feed, next_record, step}
use Rattle.csv.specs.Reading.{is_bom, records_from, records_next, strip_bom}
use Rattle.csv.specs.declared.parser.Action.{Action}
use Rattle.csv.specs.declared.parser.Action.TheVariants as act
use Rattle.csv.specs.declared.parser.Config.{Config}
use Rattle.csv.specs.declared.parser.State.{State}
use Rattle.csv.specs.declared.parser.State.TheVariants as st
use Rattle.tb_csv.specs.LinesIn.{lines_in}
use Rattle.tb_csv.specs.Read.{all_fields}
use Rattle.tb_csv.specs.Promise.LineNumbers.{has_open_quote, is_open, state_behind}
use Rattle.tb_csv.specs.Promise.Records.{Line, Record, ends_field, field, form, is_quoted, lines_of, marked_fields, marked_records, marks_from, marks_of, records_of}
use Rattle.tb_csv.proofs.MarksFit.{Fits, fits, inside, marks_count, stripped_length}
use Rattle.tb_csv.proofs.Truth.{not_true}

-- WHERE A STEP LEADS

-- a state of a text without escapes and comments
abbrev plain : State → Bool
plain st.InEscape = false
plain st.InComment = false
plain _ = true

-- no step leads to another state, and none but one that skips a byte between records leads there without an end of a record
abbrev Keeps : Bool → State × Action → Type 0
Keeps x p = (plain p.0 ≡ true) × (is_end p.1 ≡ false → inside p.0 ≡ false → (x ≡ false) × (p.1 ≡ act.Skip))

in_field_keeps : (x a b d : Bool) → Keeps x (cond {A = State × Action} a (st.StartField, act.EndField) (cond {A = State × Action} b (cond d st.AfterCr st.StartRecord, act.EndRecord) (st.InField, act.Copy)))
in_field_keeps x true b d = (refl, λ e i. cc i)
in_field_keeps x false true true = (refl, λ e i. cc e)
in_field_keeps x false true false = (refl, λ e i. cc e)
in_field_keeps x false false d = (refl, λ e i. cc i)

field_keeps : (x : Bool) (separator c : ℕ) → Keeps x (in_field (form separator) c)
field_keeps x separator c = in_field_keeps x (c == separator) ((c == 13) || (c == 10)) (c == 13)

chosen_keeps : (x b : Bool) (p q : State × Action) → Keeps x p → Keeps x q → Keeps x (cond {A = State × Action} b p q)
chosen_keeps x true p q left right = left
chosen_keeps x false p q left right = right

skip_keeps : (x : Bool) (s : State) → plain s ≡ true → (inside s ≡ false → x ≡ false) → Keeps x (s, act.Skip)
skip_keeps x s is h = (is, λ e i. (h i, refl))

start_keeps : (x : Bool) (separator c : ℕ) → Keeps x (cond {A = State × Action} (c == 34) (st.InQuoted, act.Skip) (in_field (form separator) c))
start_keeps x separator c = chosen_keeps x (c == 34) (st.InQuoted, act.Skip) (in_field (form separator) c) (skip_keeps x st.InQuoted refl (λ i. cc i)) (field_keeps x separator c)

record_keeps : (separator c : ℕ) → Keeps false (step (form separator) st.StartRecord c)
record_keeps separator c =
    chosen_keeps false ((c == 13) || (c == 10)) (st.StartRecord, act.Skip) (cond {A = State × Action} (c == 34) (st.InQuoted, act.Skip) (in_field (form separator) c))
    (skip_keeps false st.StartRecord refl (λ i. refl)) (start_keeps false separator c)

step_keeps : (separator : ℕ) (s : State) (c : ℕ) → plain s ≡ true → Keeps (inside s) (step (form separator) s c)
step_keeps separator st.StartRecord c h = record_keeps separator c
step_keeps separator st.StartField c h = start_keeps true separator c
step_keeps separator st.InField c h = field_keeps true separator c
step_keeps separator st.InQuoted c h = chosen_keeps true (c == 34) (st.AfterQuote, act.Skip) (st.InQuoted, act.Copy) (skip_keeps true st.AfterQuote refl (λ i. cc i)) (refl, λ e i. cc i)
step_keeps separator st.AfterQuote c h = chosen_keeps true (c == 34) (st.InQuoted, act.Copy) (in_field (form separator) c) (refl, λ e i. cc i) (field_keeps true separator c)
step_keeps separator st.InEscape c h = cc h
step_keeps separator st.InComment c h = cc h
step_keeps separator st.AfterCr c h = chosen_keeps false (c == 10) (st.StartRecord, act.Skip) (step (form separator) st.StartRecord c) (skip_keeps false st.StartRecord refl (λ i. refl)) (record_keeps separator c)

-- LINES WITHOUT A COUNT OF TURNS

-- the next line, and those behind it
abbrev from_next : Config → Option Read → List Line
from_next cfg None = []
from_next cfg (Some p) = p.0 ∷ lines_in cfg p.1 [] [] p.2

next_at_end : (cfg : Config) (e : Bool) (l : Line) → cond e (l ∷ []) [] ≡ from_next cfg (cond e (Some (l, st.StartRecord, [])) None)
unfolding lines_in
next_at_end cfg true l = refl
next_at_end cfg false l = refl

next_later : (cfg : Config) (e : Bool) (l : Line) (t : State) (rest : List ℕ) (ls : List Line) (o : Option Read) → ls ≡ from_next cfg o
    → cond e (l ∷ lines_in cfg t [] [] rest) ls ≡ from_next cfg (cond e (Some (l, t, rest)) o)
next_later cfg true l t rest ls o h = refl
next_later cfg false l t rest ls o h = h

next_in : (cfg : Config) (s : State) (fields : Line) (field xs : List ℕ) → lines_in cfg s fields field xs ≡ from_next cfg (next_record cfg s fields field xs)
unfolding lines_in next_record
next_in cfg s fields field [] = next_at_end cfg (ends_at_end s) (fields ++ field ∷ [])
next_in cfg s fields field (c ∷ rest) =
    let p = step cfg s c in
    next_later cfg (is_end p.1) (fields_after p.1 fields field) p.0 rest _ _ (next_in cfg p.0 (fields_after p.1 fields field) (field_after p.1 c field) rest)

turns_next : (cfg : Config) (n most : ℕ) (marks : List Bool) (o : Option Read) → most ≤ n
    → ((t : State) (ys : List ℕ) → length ys ≤ n → ends_at_end t ≡ false → records_from cfg n t ys ≡ lines_in cfg t [] [] ys)
    → Fits cfg 0 most marks o → records_next (records_from cfg n) o ≡ from_next cfg o
turns_next cfg n most marks None low more h = refl
turns_next cfg n most marks (Some p) low more h = ap (λ (ls : List Line). p.0 ∷ ls) (more p.1 p.2 (omega (arith, low, h.1)) h.2)

-- so many turns as there are bytes find all lines
all_turns : (separator n : ℕ) (s : State) (xs : List ℕ) → length xs ≤ n → ends_at_end s ≡ false → records_from (form separator) n s xs ≡ lines_in (form separator) s [] [] xs
unfolding lines_in records_from
all_turns separator zero s [] low h = rw h refl
all_turns separator zero s (c ∷ rest) low h = absurd (omega (arith, low))
all_turns separator (suc n) s xs low h =
    turns_next (form separator) n (length xs - 1) (marks_from (form separator) s xs) (next_record (form separator) s [] [] xs) (omega (arith, low)) (λ t ys small outside. all_turns separator n t ys small outside) (fits separator s [] [] xs)
    ∙ sym (next_in (form separator) s [] [] xs)

pub lines_are : (separator : ℕ) (text : List ℕ) → lines_of separator text ≡ lines_in (form separator) st.StartRecord [] [] (strip_bom text)
unfolding lines_of
lines_are separator text = all_turns separator (length text + 1) st.StartRecord (strip_bom text) (omega (arith, stripped_length text)) refl

-- A TEXT IN TWO

module _ (separator : ℕ) (other : (10 == separator) ≡ false) where
  abbrev cfg : Config
  cfg = form separator

  -- at the cut
  lines_here : (s : State) (fields : Line) (field rest : List ℕ) → plain s ≡ true → is_open s ≡ false → (inside s ≡ false → (fields ≡ []) × (field ≡ []))
      → lines_in cfg s fields field (10 ∷ rest) ≡ lines_in cfg s fields field [] ++ lines_in cfg st.StartRecord [] [] (10 ∷ rest)
  unfolding lines_in
  lines_here st.StartRecord fields field rest is shut none = let h = none refl in rw (h.0, h.1) refl
  lines_here st.StartField fields field rest is shut none = rw other refl
  lines_here st.InField fields field rest is shut none = rw other refl
  lines_here st.InQuoted fields field rest is shut none = cc shut
  lines_here st.AfterQuote fields field rest is shut none = rw other refl
  lines_here st.InEscape fields field rest is shut none = cc is
  lines_here st.InComment fields field rest is shut none = cc is
  lines_here st.AfterCr fields field rest is shut none = let h = none refl in rw (h.0, h.1) refl

  cut_later : (e : Bool) (l : Line) (ls ks ms ns zs : List Line) → (e ≡ true → ls ≡ ks ++ zs) → (e ≡ false → ms ≡ ns ++ zs)
      → cond e (l ∷ ls) ms ≡ cond e (l ∷ ks) ns ++ zs
  cut_later true l ls ks ms ns zs h k = ap (λ (more : List Line). l ∷ more) (h refl)
  cut_later false l ls ks ms ns zs h k = k refl

  skipped : (a : Action) (c : ℕ) (fields : Line) (field : List ℕ) → a ≡ act.Skip → (fields ≡ []) × (field ≡ []) → (fields_after a fields field ≡ []) × (field_after a c field ≡ [])
  skipped act.Skip c fields field is h = h
  skipped act.Copy c fields field is h = cc is
  skipped act.EndField c fields field is h = cc is
  skipped act.EndRecord c fields field is h = cc is

  lines_cut : (s : State) (fields : Line) (field xs rest : List ℕ) → plain s ≡ true → (inside s ≡ false → (fields ≡ []) × (field ≡ [])) → is_open (state_behind cfg s xs) ≡ false
      → lines_in cfg s fields field (xs ++ 10 ∷ rest) ≡ lines_in cfg s fields field xs ++ lines_in cfg st.StartRecord [] [] (10 ∷ rest)
  unfolding lines_in state_behind
  lines_cut s fields field [] rest is none shut = lines_here s fields field rest is shut none
  lines_cut s fields field (c ∷ xs) rest is none shut =
      let p = step cfg s c in
      let keeps = step_keeps separator s c is in
      cut_later (is_end p.1) (fields_after p.1 fields field) _ _ _ _ _
      (λ e. lines_cut p.0 [] [] xs rest keeps.0 (λ i. (refl, refl)) shut)
      (λ e. lines_cut p.0 (fields_after p.1 fields field) (field_after p.1 c field) xs rest keeps.0
      (λ i. let back = keeps.1 e i in skipped p.1 c fields field back.1 (none back.0)) shut)

  marks_here : (s : State) (rest : List ℕ) → plain s ≡ true → is_open s ≡ false → marks_from cfg s (10 ∷ rest) ≡ marks_from cfg s [] ++ marks_from cfg st.StartRecord (10 ∷ rest)
  unfolding marks_from
  marks_here st.StartRecord rest is shut = refl
  marks_here st.StartField rest is shut = rw other refl
  marks_here st.InField rest is shut = rw other refl
  marks_here st.InQuoted rest is shut = cc shut
  marks_here st.AfterQuote rest is shut = rw other refl
  marks_here st.InEscape rest is shut = cc is
  marks_here st.InComment rest is shut = cc is
  marks_here st.AfterCr rest is shut = refl

  mark_later : (e q : Bool) (ps qs zs : List Bool) → ps ≡ qs ++ zs → cond e (q ∷ ps) ps ≡ cond e (q ∷ qs) qs ++ zs
  mark_later true q ps qs zs h = ap (λ (more : List Bool). q ∷ more) h
  mark_later false q ps qs zs h = h

  marks_cut : (s : State) (xs rest : List ℕ) → plain s ≡ true → is_open (state_behind cfg s xs) ≡ false → marks_from cfg s (xs ++ 10 ∷ rest) ≡ marks_from cfg s xs ++ marks_from cfg st.StartRecord (10 ∷ rest)
  unfolding marks_from state_behind
  marks_cut s [] rest is shut = marks_here s rest is shut
  marks_cut s (c ∷ xs) rest is shut =
      let p = step cfg s c in
      mark_later (ends_field p.1) (is_quoted s) _ _ _ (marks_cut p.0 xs rest (step_keeps separator s c is).0 shut)

  behind_here : (s : State) (rest : List ℕ) → plain s ≡ true → is_open s ≡ false → state_behind cfg s (10 ∷ rest) ≡ state_behind cfg st.StartRecord (10 ∷ rest)
  unfolding state_behind
  behind_here st.StartRecord rest is shut = refl
  behind_here st.StartField rest is shut = rw other refl
  behind_here st.InField rest is shut = rw other refl
  behind_here st.InQuoted rest is shut = cc shut
  behind_here st.AfterQuote rest is shut = rw other refl
  behind_here st.InEscape rest is shut = cc is
  behind_here st.InComment rest is shut = cc is
  behind_here st.AfterCr rest is shut = refl

  behind_cut : (s : State) (xs rest : List ℕ) → plain s ≡ true → is_open (state_behind cfg s xs) ≡ false → state_behind cfg s (xs ++ 10 ∷ rest) ≡ state_behind cfg st.StartRecord (10 ∷ rest)
  unfolding state_behind
  behind_cut s [] rest is shut = behind_here s rest is shut
  behind_cut s (c ∷ xs) rest is shut = behind_cut (step cfg s c).0 xs rest (step_keeps separator s c is).0 shut

-- A BYTE-ORDER MARK

and_false : (a : Bool) → (a && false) ≡ false
and_false true = refl
and_false false = refl

-- a line feed is no byte of it
second : (x : ℕ) (rest : List ℕ) → strip_bom (x ∷ 10 ∷ rest) ≡ x ∷ 10 ∷ rest
unfolding strip_bom
second x [] = refl
second x (z ∷ rest) = rw (and_false (x == 0xEF)) refl

pub no_mark : (rest : List ℕ) → strip_bom (10 ∷ rest) ≡ 10 ∷ rest
unfolding strip_bom
no_mark [] = refl
no_mark (y ∷ []) = refl
no_mark (y ∷ z ∷ rest) = refl

kept_or_not : (b : Bool) (x y z : ℕ) (xs tail : List ℕ) → cond b (xs ++ tail) (x ∷ y ∷ z ∷ (xs ++ tail)) ≡ cond b xs (x ∷ y ∷ z ∷ xs) ++ tail
kept_or_not true x y z xs tail = refl
kept_or_not false x y z xs tail = refl

mark_cut : (xs rest : List ℕ) → strip_bom (xs ++ 10 ∷ rest) ≡ strip_bom xs ++ 10 ∷ rest
unfolding strip_bom
mark_cut [] rest = no_mark rest
mark_cut (x ∷ []) rest = second x rest
mark_cut (x ∷ y ∷ []) rest = rw (and_false ((x == 0xEF) && (y == 0xBB))) refl
mark_cut (x ∷ y ∷ z ∷ xs) rest = kept_or_not (is_bom x y z) x y z xs (10 ∷ rest)

-- RECORDS

enough : (qs rs : List Bool) (n : ℕ) → n ≤ length qs → drop n (qs ++ rs) ≡ drop n qs ++ rs
enough qs rs zero low = refl
enough [] rs (suc n) low = absurd (omega (arith, low))
enough (q ∷ qs) rs (suc n) low = enough qs rs n (omega (arith, low))

fields_by : (qs rs : List Bool) (l : Line) → length l ≤ length qs → marked_fields (qs ++ rs) l ≡ marked_fields qs l
fields_by qs rs [] low = refl
fields_by [] rs (s ∷ ss) low = absurd (omega (arith, low))
fields_by (q ∷ qs) rs (s ∷ ss) low = ap (λ (r : Record). field q s ∷ r) (fields_by qs rs ss (omega (arith, low)))

dropped : (qs : List Bool) (n m : ℕ) → length qs ≡ n + m → length (drop n qs) ≡ m
dropped qs zero m h = omega (arith, h)
dropped [] (suc n) m h = absurd (omega (arith, h))
dropped (q ∷ qs) (suc n) m h = dropped qs n m (omega (arith, h))

marked_cut : (qs rs : List Bool) (ls ms : List Line) → length qs ≡ length (all_fields ls) → marked_records (qs ++ rs) (ls ++ ms) ≡ marked_records qs ls ++ marked_records rs ms
marked_cut [] rs [] ms h = refl
marked_cut (q ∷ qs) rs [] ms h = absurd (omega (arith, h))
marked_cut qs rs (l ∷ ls) ms h =
    let size : length qs ≡ length l + length (all_fields ls) = h ∙ length-append l (all_fields ls) in
    let low : length l ≤ length qs = omega (arith, size) in
    rw (fields_by qs rs l low, enough qs rs (length l) low)
    (ap (λ (k : List Record). marked_fields qs l ∷ k) (marked_cut (drop (length l) qs) rs ls ms (dropped qs (length l) (length (all_fields ls)) size)))

pub no_separator : (separator : ℕ) → separator ≢ line_feed → (10 == separator) ≡ false
no_separator separator other = not_true (10 == separator) (λ e. other (sym (eqb-true 10 separator e)))

module _ (separator : ℕ) (other : (10 == separator) ≡ false) (text rest : List ℕ) (shut : has_open_quote separator text ≡ false) where
  lines_two : lines_of separator (text ++ 10 ∷ rest) ≡ lines_of separator text ++ lines_of separator (10 ∷ rest)
  unfolding has_open_quote
  lines_two =
      lines_are separator (text ++ 10 ∷ rest) ∙ ap (lines_in (form separator) st.StartRecord [] []) (mark_cut text rest)
      ∙ lines_cut separator other st.StartRecord [] [] (strip_bom text) rest refl (λ i. (refl, refl)) shut
      ∙ rw (lines_are separator text, lines_are separator (10 ∷ rest), no_mark rest) refl

  marks_two : marks_of separator (text ++ 10 ∷ rest) ≡ marks_of separator text ++ marks_of separator (10 ∷ rest)
  unfolding has_open_quote marks_of
  marks_two = rw (mark_cut text rest, no_mark rest) (marks_cut separator other st.StartRecord (strip_bom text) rest refl shut)

  pub records_two : records_of separator (text ++ 10 ∷ rest) ≡ records_of separator text ++ records_of separator (10 ∷ rest)
  unfolding records_of
  records_two = rw (lines_two, marks_two) (marked_cut (marks_of separator text) (marks_of separator (10 ∷ rest)) (lines_of separator text) (lines_of separator (10 ∷ rest)) (marks_count separator text))

  pub open_two : has_open_quote separator (text ++ 10 ∷ rest) ≡ has_open_quote separator (10 ∷ rest)
  unfolding has_open_quote
  open_two = rw (mark_cut text rest, no_mark rest) (ap is_open (behind_cut separator other st.StartRecord (strip_bom text) rest refl shut))

pub pieces_fit : (separator : ℕ) → separator ≢ line_feed → (text rest : List ℕ) → has_open_quote separator text ≡ false
    → (records_of separator (text ++ line_feed ∷ rest) ≡ records_of separator text ++ records_of separator (line_feed ∷ rest))
    × (has_open_quote separator (text ++ line_feed ∷ rest) ≡ has_open_quote separator (line_feed ∷ rest))
pieces_fit separator other text rest shut =
    let byte = no_separator separator other in (records_two separator byte text rest shut, open_two separator byte text rest shut)
