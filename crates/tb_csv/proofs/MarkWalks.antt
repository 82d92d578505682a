-- The marks of the fields of a text.
use Rattle.std.proofs.Common.{◌≡◌, ◌<◌, ◌≤◌, ◌+◌, ◌++◌, ◌∷◌, ◌∙◌, [], ℕ, List, Bool, true, false, cond, length, drop, get_or, refl, sym, ap, append_assoc, Result, Ok, Err}
use Rattle.std.specs.Prelude.{IfOk}
use Rattle.std.proofs.lemmas.List.{drop_all, drop_more}
use Rattle.csv.specs.Machine.{ends_at_end, step}
use Rattle.csv.specs.declared.parser.Config.{Config}
use Rattle.csv.specs.declared.parser.State.{State}
use Rattle.csv.specs.Reading.{strip_bom}
use Rattle.csv.specs.declared.parser.State.TheVariants as st
use Rattle.tb_csv.specs.Places.{MarkAlike}
use Rattle.tb_csv.specs.Promise.LineNumbers.{has_open_quote, is_open, state_behind}
use Rattle.tb_csv.specs.declared.marks.Marks.{Marks}
use Rattle.tb_csv.specs.Promise.Records.{ends_field, form, is_quoted, marks_from, marks_of}

one_step : (cfg : Config) (s : State) (c : ℕ) (rest : List ℕ) (e : Bool) → e ≡ ends_field (step cfg s c).1
    → marks_from cfg s (c ∷ rest) ≡ cond e (is_quoted s ∷ []) [] ++ marks_from cfg (step cfg s c).0 rest
unfolding marks_from
one_step cfg s c rest true is = rw (sym is) refl
one_step cfg s c rest false is = rw (sym is) refl

-- one more byte
pub marks_grow : (cfg : Config) (s t : State) (e q : Bool) (ms new all : List Bool) (xs : List ℕ) (i : ℕ) → i < length xs
    → t ≡ (step cfg s (get_or xs i 0)).0 → e ≡ ends_field (step cfg s (get_or xs i 0)).1 → q ≡ is_quoted s
    → new ≡ ms ++ cond e (q ∷ []) [] → ms ++ marks_from cfg s (drop i xs) ≡ all → new ++ marks_from cfg t (drop (i + 1) xs) ≡ all
marks_grow cfg s t e q ms new all xs i low next ends quoted push so_far =
    let turn = ap (marks_from cfg s) (drop_more xs i 0 low) ∙ one_step cfg s (get_or xs i 0) (drop (i + 1) xs) e ends in
    rw (push, quoted, next) (append_assoc ms (cond e (is_quoted s ∷ []) []) (marks_from cfg (step cfg s (get_or xs i 0)).0 (drop (i + 1) xs)))
    ∙ ap (λ (l : List Bool). ms ++ l) (sym turn) ∙ so_far

-- the end of the text
pub marks_end : (cfg : Config) (s : State) (e q : Bool) (ms new all : List Bool) (xs : List ℕ) (i : ℕ) → length xs ≤ i
    → e ≡ ends_at_end s → q ≡ is_quoted s → new ≡ ms ++ cond e (q ∷ []) [] → ms ++ marks_from cfg s (drop i xs) ≡ all → new ≡ all
unfolding marks_from
marks_end cfg s e q ms new all xs i past ends quoted push so_far =
    let last = rw (drop_all i xs past) at so_far in
    push ∙ rw (ends, quoted) last

-- the marks that were found are those of the text
pub alike : {E : Type 0} (separator : ℕ) (xs ys : List ℕ) (r : Result Marks E) → ys ≡ strip_bom xs → IfOk r (λ m. m.marks.items ≡ marks_from (form separator) st.StartRecord ys)
    → IfOk r (λ m. MarkAlike m.marks.items (marks_of separator xs))
unfolding marks_of
alike separator xs ys (Ok m) is h = λ n l. rw (h, is) refl
alike separator xs ys (Err e) is h = tt

-- the state behind one more byte
pub behind_more : (cfg : Config) (s t end : State) (xs : List ℕ) (i : ℕ) → i < length xs → t ≡ (step cfg s (get_or xs i 0)).0
    → state_behind cfg s (drop i xs) ≡ end → state_behind cfg t (drop (i + 1) xs) ≡ end
unfolding state_behind
behind_more cfg s t end xs i low next so_far = rw next (rw (drop_more xs i 0 low) at so_far)

pub behind_end : (cfg : Config) (s end : State) (xs : List ℕ) (i : ℕ) → length xs ≤ i → state_behind cfg s (drop i xs) ≡ end → s ≡ end
unfolding state_behind
behind_end cfg s end xs i past so_far = rw (drop_all i xs past) at so_far

pub open_alike : {E : Type 0} (separator : ℕ) (xs ys : List ℕ) (r : Result Marks E) → ys ≡ strip_bom xs → IfOk r (λ m. m.is_open ≡ is_open (state_behind (form separator) st.StartRecord ys))
    → IfOk r (λ m. m.is_open ≡ has_open_quote separator xs)
unfolding has_open_quote
open_alike separator xs ys (Ok m) is h = h ∙ ap (λ (zs : List ℕ). is_open (state_behind (form separator) st.StartRecord zs)) is
open_alike separator xs ys (Err e) is h = tt
