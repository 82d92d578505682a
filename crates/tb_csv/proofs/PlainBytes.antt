-- What the bytes of a text without quotes do to its lines.
use Rattle.std.proofs.Common.{◌≡◌, ◌==◌, ◌<◌, ◌++◌, ◌∷◌, ◌∙◌, [], ℕ, zero, suc, List, Bool, true, false, cond, drop, length, get_or, refl, sym, ap}
use Rattle.std.specs.Prelude.{◌||◌, if◌then◌else◌}
use Rattle.std.proofs.lemmas.List.Folds.{list_any_at}
use Rattle.csv.specs.Machine.{field_after, fields_after, is_end, start_field, step}
use Rattle.csv.specs.declared.parser.Action.{Action}
use Rattle.csv.specs.declared.parser.Action.TheVariants as act
use Rattle.csv.specs.declared.parser.Config.{Config}
use Rattle.csv.specs.declared.parser.State.{State}
use Rattle.csv.specs.declared.parser.State.TheVariants as st
use Rattle.tb_csv.specs.LinesIn.{lines_in}
use Rattle.tb_csv.specs.Places.{has_quote}
use Rattle.tb_csv.specs.Plain.{is_field_end, is_line_end, plain_lines}
use Rattle.tb_csv.specs.Promise.Records.{Line, form}
use Rattle.tb_csv.proofs.Truth.{not_true, or_parts}

-- the lines behind a step
abbrev lines_behind : Config → State × Action → Line → List ℕ → ℕ → List ℕ → List Line
lines_behind cfg p fields field c rest =
    if is_end p.1
    then fields_after p.1 fields field ∷ lines_in cfg p.0 [] [] rest
    else lines_in cfg p.0 (fields_after p.1 fields field) (field_after p.1 c field) rest

one_step : (cfg : Config) (s : State) (fields : Line) (field : List ℕ) (c : ℕ) (rest : List ℕ) (p : State × Action) → step cfg s c ≡ p
    → lines_in cfg s fields field (c ∷ rest) ≡ lines_behind cfg p fields field c rest
unfolding lines_in
one_step cfg s fields field c rest p is = ap (λ (q : State × Action). lines_behind cfg q fields field c rest) is

same_step : (cfg : Config) (s t : State) (fields : Line) (field : List ℕ) (c : ℕ) (rest : List ℕ) → step cfg s c ≡ step cfg t c
    → lines_in cfg s fields field (c ∷ rest) ≡ lines_in cfg t fields field (c ∷ rest)
same_step cfg s t fields field c rest is = one_step cfg s fields field c rest (step cfg t c) is ∙ sym (one_step cfg t fields field c rest (step cfg t c) refl)

-- BETWEEN ROWS

chosen_twice : (a b : Bool) (p q : State × Action) → cond {A = State × Action} b p (cond (a || b) p q) ≡ cond {A = State × Action} (a || b) p q
chosen_twice true true p q = refl
chosen_twice true false p q = refl
chosen_twice false true p q = refl
chosen_twice false false p q = refl

-- a line feed behind a carriage return is skipped like any other line end
after_return : (separator : ℕ) (xs : List ℕ) → lines_in (form separator) st.AfterCr [] [] xs ≡ plain_lines separator xs
unfolding lines_in
after_return separator [] = refl
after_return separator (c ∷ rest) =
    same_step (form separator) st.AfterCr st.StartRecord [] [] c rest (chosen_twice (c == 13) (c == 10) (st.StartRecord, act.Skip) (start_field (form separator) c))

-- a line end
pub line_end_skipped : (separator c : ℕ) (rest : List ℕ) → is_line_end c ≡ true → plain_lines separator (c ∷ rest) ≡ plain_lines separator rest
line_end_skipped separator c rest is = one_step (form separator) st.StartRecord [] [] c rest (st.StartRecord, act.Skip) (rw is refl)

-- another byte
pub row_begins : (separator c : ℕ) (rest : List ℕ) → is_line_end c ≡ false → (c == 34) ≡ false
    → plain_lines separator (c ∷ rest) ≡ lines_in (form separator) st.InField [] [] (c ∷ rest)
row_begins separator c rest is bare = same_step (form separator) st.StartRecord st.InField [] [] c rest (rw (is, bare) refl)

-- IN A ROW

-- a byte of a field
pub byte_joins : (separator : ℕ) (fields : Line) (field : List ℕ) (c : ℕ) (rest : List ℕ) → is_field_end separator c ≡ false
    → lines_in (form separator) st.InField fields field (c ∷ rest) ≡ lines_in (form separator) st.InField fields (field ++ c ∷ []) rest
byte_joins separator fields field c rest is =
    let p = or_parts (c == separator) (is_line_end c) is in
    one_step (form separator) st.InField fields field c rest (st.InField, act.Copy) (rw (p.0, p.1) refl)

-- a field that has begun is read on as one that is to begin, before a byte that is no quote
field_begins : (separator : ℕ) (fields : Line) (xs : List ℕ) → has_quote xs ≡ false
    → lines_in (form separator) st.StartField fields [] xs ≡ lines_in (form separator) st.InField fields [] xs
unfolding lines_in
field_begins separator fields [] none = refl
field_begins separator fields (c ∷ rest) none =
    let p = or_parts (c == 34) (has_quote rest) none in
    same_step (form separator) st.StartField st.InField fields [] c rest (rw (p.0) refl)

-- a separator
pub field_ends : (separator : ℕ) (fields : Line) (field : List ℕ) (c : ℕ) (rest : List ℕ) → (c == separator) ≡ true → has_quote rest ≡ false
    → lines_in (form separator) st.InField fields field (c ∷ rest) ≡ lines_in (form separator) st.InField (fields ++ field ∷ []) [] rest
field_ends separator fields field c rest is none =
    one_step (form separator) st.InField fields field c rest (st.StartField, act.EndField) (rw is refl)
    ∙ field_begins separator (fields ++ field ∷ []) rest none

behind_return : (separator : ℕ) (b : Bool) (xs : List ℕ) → lines_in (form separator) (cond b st.AfterCr st.StartRecord) [] [] xs ≡ plain_lines separator xs
behind_return separator true xs = after_return separator xs
behind_return separator false xs = refl

-- a line end
pub row_ends : (separator : ℕ) (fields : Line) (field : List ℕ) (c : ℕ) (rest : List ℕ) → (c == separator) ≡ false → is_line_end c ≡ true
    → lines_in (form separator) st.InField fields field (c ∷ rest) ≡ (fields ++ field ∷ []) ∷ plain_lines separator rest
row_ends separator fields field c rest other is =
    one_step (form separator) st.InField fields field c rest (cond (c == 13) st.AfterCr st.StartRecord, act.EndRecord) (rw (other, is) refl)
    ∙ ap (λ (ls : List Line). (fields ++ field ∷ []) ∷ ls) (behind_return separator (c == 13) rest)

-- the end of the text
pub text_ends : (separator : ℕ) (fields : Line) (field : List ℕ) → lines_in (form separator) st.InField fields field [] ≡ (fields ++ field ∷ []) ∷ plain_lines separator []
unfolding lines_in
text_ends separator fields field = refl

pub no_lines : (separator : ℕ) → plain_lines separator [] ≡ []
unfolding lines_in
no_lines separator = refl

-- BYTES OF A TEXT

pub no_quote_at : (xs : List ℕ) (i : ℕ) → i < length xs → has_quote xs ≡ false → (get_or xs i 0 == 34) ≡ false
no_quote_at xs i low none = not_true (get_or xs i 0 == 34) (λ is. let found = list_any_at (λ b. b == 34) xs i 0 low is in cc)

pub no_quote_behind : (n : ℕ) (xs : List ℕ) → has_quote xs ≡ false → has_quote (drop n xs) ≡ false
no_quote_behind zero xs none = none
no_quote_behind (suc n) [] none = none
no_quote_behind (suc n) (c ∷ rest) none = no_quote_behind n rest (or_parts (c == 34) (has_quote rest) none).1
