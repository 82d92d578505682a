-- The table of changes.
use Rattle.std.proofs.Common.{◌≡◌, ◌∙◌, ◌+◌, ◌++◌, ◌==◌, ◌&&◌, Bool, true, false, not, List, [], ◌∷◌, length, map, None, Ok, Err, Option, Some, ℕ, pos, add-one, append_assoc, drop, replicate, take, refl, ap, arith, sym, subst}
use Rattle.std.specs.Prelude.{All, IfOk, Result}
use Rattle.std.proofs.lemmas.Bool.{eq-eqb}
use Rattle.std.proofs.lemmas.Int.{ints}
use Rattle.std.proofs.lemmas.Str.{IsUtf8-from_ascii}
use Rattle.std.proofs.lemmas.Str.Ascii.{IsAscii-cons}
use Rattle.std.proofs.lemmas.List.{length-map, map-append, take-append-drop}
use Rattle.std.proofs.lemmas.List.Elements.{All-nil, All-cons}
use Rattle.tb_value.specs.Promise.Datum.{Datum, int, string}
use Rattle.tb_value.specs.Promise.Kind.{Kind}
use Rattle.tb_value.specs.Promise.Kind as kind
use Rattle.tb_value.specs.Promise.Refusals.{first_cause, when}
use Rattle.tb_value.specs.Promise.Typed.{HasType}
use Rattle.tb_value.specs.declared.error.OutOfMemory.{OutOfMemory}
use Rattle.tb_value.specs.declared.error.PolarsError.{PolarsError}
use Rattle.tb_value.specs.declared.error.PolarsError.TheVariants.{ShapeMismatch}
use Rattle.tb_chunk.specs.Chunk.{or_null}
use Rattle.tb_frame.specs.Frame.{frame_refusal}
use Rattle.tb_frame.specs.Promise.Frame.{are_level}
use Rattle.tb_delta_front.specs.Changes.{kind_at, sign_cell, value_at}
use Rattle.tb_delta_front.specs.Deltas.{change_view, changes_of}
use Rattle.tb_delta_front.specs.Promise.Deltas.{Change, changes_table, number, sign_of}
use Rattle.tb_delta_front.specs.declared.change.Change as rust
use Rattle.tb_delta_front.specs.declared.changes.ChangeColumn.{ChangeColumn}
use Rattle.tb_delta_front.specs.declared.changes.ChangeColumn.TheVariants.{Step, Sign, Left, Right}

-- a number of each change, in cells
pub shown_cells : (g : rust.Change → ℕ) (h : Change → Datum) (cs : List rust.Change) → ((c : rust.Change) → int (pos (g c)) ≡ h (change_view c)) → map (or_null (λ n. int (pos n))) (map Some (map g cs)) ≡ map h (changes_of cs)
shown_cells g h [] is = refl
shown_cells g h (c ∷ cs) is = λ t. is c t ∷ shown_cells g h cs is t

pub shown_signs : (cs : List rust.Change) → map (or_null string) (map sign_cell cs) ≡ map (value_at Sign) (changes_of cs)
shown_signs [] = refl
shown_signs (c ∷ cs) = ap (λ (vs : List Datum). string (sign_of c.comes) ∷ vs) (shown_signs cs)

replicate_more : (n : ℕ) (x : Option (List ℕ)) → replicate (n + 1) x ≡ x ∷ replicate n x
replicate_more n x = rw (add-one) refl

-- some signs more, and those of the changes that are left
pub signs_more : (rows more all : List (Option (List ℕ))) (first : rust.Change) (left behind rest : List rust.Change) (n : ℕ) → left ≡ first ∷ behind → more ≡ rows ++ replicate (n + 1) (Some (sign_of first.comes))
    → map sign_cell (take n behind) ≡ replicate n (Some (sign_of first.comes)) → rest ≡ drop n behind → rows ++ map sign_cell left ≡ all → more ++ map sign_cell rest ≡ all
signs_more rows more all first left behind rest n here put alike next so_far =
    let x = Some (sign_of first.comes) in
    (λ t. put t ++ map sign_cell (next t))
    ∙ append_assoc rows (replicate (n + 1) x) (map sign_cell (drop n behind))
    ∙ ap (λ l. rows ++ l) (
    ap (λ l. l ++ map sign_cell (drop n behind)) (replicate_more n x ∙ ap (λ l. x ∷ l) (sym alike))
    ∙ ap (λ l. x ∷ l) (sym (map-append sign_cell (take n behind) (drop n behind)) ∙ ap (map sign_cell) (take-append-drop n behind))
    ∙ ap (map sign_cell) (sym here)
    )
    ∙ so_far

-- a column's numbers in one chunk
pub numbers_shown : (column k : ChangeColumn) (g : rust.Change → ℕ) (cs : List rust.Change) (numbers : List ℕ) (cells : List (Option ℕ)) (chunks : List (List (Option ℕ))) → column ≡ k → ((c : rust.Change) → int (pos (g c)) ≡ value_at k (change_view c))
    → numbers ≡ map g cs → cells ≡ map Some numbers → chunks ≡ cells ∷ [] → map (λ (c : List (Option ℕ)). map (or_null (λ n. int (pos n))) c) chunks ≡ map (value_at column) (changes_of cs) ∷ []
numbers_shown column k g cs numbers cells chunks is each are held one =
    ap (map (λ (c : List (Option ℕ)). map (or_null (λ n. int (pos n))) c)) (one ∙ ap (λ (c : List (Option ℕ)). c ∷ []) (held ∙ ap (map Some) are))
    ∙ ap (λ (vs : List Datum). vs ∷ []) (shown_cells g (value_at k) cs each)
    ∙ ap (λ (j : ChangeColumn). map (value_at j) (changes_of cs) ∷ []) (sym is)

-- and its signs
pub signs_shown : (column : ChangeColumn) (cs : List rust.Change) (texts : List (Option (List ℕ))) → column ≡ Sign → texts ≡ map sign_cell cs → map (or_null string) texts ≡ map (value_at column) (changes_of cs)
signs_shown column cs texts is are = ap (map (or_null string)) are ∙ shown_signs cs ∙ ap (λ (j : ChangeColumn). map (value_at j) (changes_of cs)) (sym is)

-- what an answer is that only memory can be wanting for
pub through : {T : Type 0} (P Q : T → Type 0) (r : Result T PolarsError) (s : Result T OutOfMemory) → IfOk s (λ t. r ≡ Ok t) → IfOk r P → ((t : T) → P t → Q t) → IfOk s Q
through P Q r (Ok t) is h f = f t (subst (λ x. IfOk x P) is h)
through P Q r (Err e) is h f = tt

sign_typed : (b : Bool) → HasType kind.string (string (sign_of b))
sign_typed true = (refl, omega arith, IsUtf8-from_ascii (43 ∷ []) (IsAscii-cons 43 [] (omega arith) (λ i. omega arith)))
sign_typed false = (refl, omega arith, IsUtf8-from_ascii (45 ∷ []) (IsAscii-cons 45 [] (omega arith) (λ i. omega arith)))

typed_value : (k : ChangeColumn) (c : rust.Change) → HasType (kind_at k) (value_at k (change_view c))
typed_value Step c = (omega (arith, ints), omega (arith, ints, c.step_fits))
typed_value Sign c = sign_typed c.comes
typed_value Left c = (omega (arith, ints), omega (arith, ints, c.left_fits))
typed_value Right c = (omega (arith, ints), omega (arith, ints, c.right_fits))

pub typed_values : (k : ChangeColumn) (cs : List rust.Change) → All (HasType (kind_at k)) (map (value_at k) (changes_of cs))
typed_values k [] = All-nil (HasType (kind_at k))
typed_values k (c ∷ cs) = All-cons (HasType (kind_at k)) (value_at k (change_view c)) (map (value_at k) (changes_of cs)) (typed_value k c) (typed_values k cs)

-- ---- nothing is refused

as_long : (f g : Change → Datum) (cs : List Change) → (length (map f cs) == length (map g cs)) ≡ true
as_long f g cs = eq-eqb (length (map f cs)) (length (map g cs)) (length-map cs f ∙ sym (length-map cs g))

all_four : (a b c d : Bool) → a ≡ true → b ≡ true → c ≡ true → d ≡ true → (a && (b && (c && (d && true)))) ≡ true
all_four a b c d e f g h = λ t. e t && (f t && (g t && (h t && true)))

level : (cs : List Change) → are_level (changes_table cs) ≡ true
level cs =
    let first : Change → Datum = λ c. number c.step in
    all_four _ _ _ _ (as_long first first cs) (as_long (λ c. string (sign_of c.comes)) first cs) (as_long (λ c. number c.left) first cs) (as_long (λ c. number c.right) first cs)

pub no_refusal : (cs : List Change) → frame_refusal (changes_table cs) ≡ None
no_refusal cs = ap (λ (b : Bool). first_cause (when (not b) ShapeMismatch ∷ None ∷ [])) (level cs)
