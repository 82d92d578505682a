-- What a view keeps is kept by a removal.
use Rattle.std.proofs.Common.{◌≡◌, ℕ, suc, ◌<◌, Bool, true, false, cond, not, nat_eq, ◌&&◌, if◌then◌else◌, List, [], ◌∷◌, map, Option, Some, None, refl, ap, arith, sym, ◌∙◌, ⊎_elim}
use Rattle.std.specs.Prelude.{filter, All, AllPairs}
use Rattle.std.specs.Map.{lookup}
use Rattle.std.proofs.lemmas.Bool.{cases_Bool}
use Rattle.std.proofs.lemmas.List.Kept.{AllPairs-filter}
use Rattle.std.proofs.lemmas.List.Elements.{All-filter, All-map}
use Rattle.tb_value.specs.Promise.Datum.{Datum}
use Rattle.tb_value.specs.Promise.Same.{agrees}
use Rattle.tb_value.specs.Promise.Typed.{FitsFields}
use Rattle.tb_value.specs.See.{datum}
use Rattle.tb_value.specs.declared.error.Side.{Side}
use Rattle.tb_value.specs.declared.error.Side.TheVariants as side
use Rattle.tb_delta.specs.Groups.{is_side, without}
use Rattle.tb_delta.specs.Inside.{AreGrouped, AreRows, IsKept, agreeing, key_of, pulled_agrees}
use Rattle.tb_delta.specs.Promise.State.{Row, SideState, State, on_side, row_of, taken_out}
use Rattle.tb_delta.specs.declared.key.RowKey.{RowKey}
use Rattle.tb_delta.proofs.Without.{without-absent}

abbrev number : Row → ℕ
number r = r.0

filter-map : {X Y : Type 0} (q : Y → Bool) (f : X → Y) (xs : List X) → filter q (map f xs) ≡ map f (filter (λ x. q (f x)) xs)
filter-map q f [] = refl
filter-map {X} {Y} q f (x ∷ xs) = at (q (f x)) (filter-map q f xs)
  where
    at : (b : Bool) → filter q (map f xs) ≡ map f (filter (λ y. q (f y)) xs) → cond b (f x ∷ filter q (map f xs)) (filter q (map f xs)) ≡ map f (cond b (x ∷ filter (λ y. q (f y)) xs) (filter (λ y. q (f y)) xs))
    at true e = ap (λ (l : List Y). f x ∷ l) e
    at false e = e

filter-filter : {X : Type 0} (p q : X → Bool) (xs : List X) → filter p (filter q xs) ≡ filter q (filter p xs)
filter-filter p q [] = refl
filter-filter {X} p q (x ∷ xs) = at (p x) (q x) refl refl (filter-filter p q xs)
  where
    at : (a b : Bool) → p x ≡ a → q x ≡ b → filter p (filter q xs) ≡ filter q (filter p xs) → filter p (cond b (x ∷ filter q xs) (filter q xs)) ≡ filter q (cond a (x ∷ filter p xs) (filter p xs))
    at true true u v e = ap (λ (c : Bool). cond c (x ∷ filter p (filter q xs)) (filter p (filter q xs))) u ∙ ap (λ (l : List X). x ∷ l) e ∙ sym (ap (λ (c : Bool). cond c (x ∷ filter q (filter p xs)) (filter q (filter p xs))) v)
    at true false u v e = e ∙ sym (ap (λ (c : Bool). cond c (x ∷ filter q (filter p xs)) (filter q (filter p xs))) v)
    at false true u v e = ap (λ (c : Bool). cond c (x ∷ filter p (filter q xs)) (filter p (filter q xs))) u ∙ e
    at false false u v e = e

-- the ids of the kept rows without one, and those of the rows without its row
pub without_row : (test : Row → Bool) (id : ℕ) (rows : List Row) → without id (map number (filter test rows)) ≡ map number (filter test (filter (λ (r : Row). not (nat_eq id r.0)) rows))
without_row test id rows =
    filter-map (λ i. not (nat_eq id i)) number (filter test rows)
    ∙ ap (map number) (filter-filter (λ (r : Row). not (nat_eq id r.0)) test rows)

-- whether the found row passes
abbrev passes_found : (Row → Bool) → ℕ → Option (List Datum) → Bool
passes_found test id None = false
passes_found test id (Some row) = test (id, row)

above : (id : ℕ) (test : Row → Bool) (rows : List Row) → All (λ (r : Row). id < r.0) rows → without id (map number (filter test rows)) ≡ map number (filter test rows)
above id test rows high = without-absent id (map number (filter test rows)) (λ k low e. omega (arith, e, (All-map (λ i. id < i) number (filter test rows) (All-filter test (λ (r : Row). id < r.0) rows high)) k 0 low))

-- an id whose row doesn't pass is not among the ids of those that do
pub not_among : (test : Row → Bool) (id : ℕ) (rows : List Row) → AllPairs (λ (a b : Row). a.0 < b.0) rows → passes_found test id (lookup (nat_eq id) rows) ≡ false
    → without id (map number (filter test rows)) ≡ map number (filter test rows)
not_among test id [] asc fails = refl
not_among test id (r ∷ rows) asc fails = ⊎_elim
    (λ y.
    let same : id ≡ r.0 = grind (arith, y) in
    let out : test (id, r.1) ≡ false = sym (ap (λ b. passes_found test id (cond b (Some r.1) (lookup (nat_eq id) rows))) y) ∙ fails in
    let gone : test r ≡ false = ap (λ n. test (n, r.1)) (sym same) ∙ out in
    let high : All (λ (s : Row). id < s.0) rows = λ k d low. omega (arith, same, asc 0 (suc k) d (omega arith) (omega (arith, low))) in
    ap (λ b. without id (map number (cond b (r ∷ filter test rows) (filter test rows)))) gone
    ∙ above id test rows high
    ∙ sym (ap (λ b. map number (cond b (r ∷ filter test rows) (filter test rows))) gone))
    (λ n.
    let rest : without id (map number (filter test rows)) ≡ map number (filter test rows) =
    not_among test id rows (λ i j d less low. asc (suc i) (suc j) d (omega (arith, less)) (omega (arith, low)))
    (sym (ap (λ b. passes_found test id (cond b (Some r.1) (lookup (nat_eq id) rows))) n) ∙ fails) in
    at rest (not (nat_eq id r.0)) (ap not n) (test r))
    (cases_Bool (nat_eq id r.0))
  where
    at : without id (map number (filter test rows)) ≡ map number (filter test rows) → (o : Bool) → not (nat_eq id r.0) ≡ true → (b : Bool)
        → without id (map number (cond b (r ∷ filter test rows) (filter test rows))) ≡ map number (cond b (r ∷ filter test rows) (filter test rows))
    at e o stays true = ap (λ c. cond c (r.0 ∷ without id (map number (filter test rows))) (without id (map number (filter test rows)))) stays ∙ ap (λ (l : List ℕ). r.0 ∷ l) e
    at e o stays false = e

pub agreeing_pulled : (nulls : Bool) (s : SideState) (id : ℕ) (k : Datum) → AreRows s
    → (if pulled_agrees nulls s (row_of s id) k then without id (agreeing nulls s k) else agreeing nulls s k) ≡ agreeing nulls (taken_out id s) k
agreeing_pulled nulls s id k x = ⊎_elim
    (λ y. ap (λ b. if b then without id (agreeing nulls s k) else agreeing nulls s k) y ∙ without_row test id s.rows)
    (λ n. ap (λ b. if b then without id (agreeing nulls s k) else agreeing nulls s k) n
    ∙ sym (not_among test id s.rows x.ascend (same_test (row_of s id) ∙ n))
    ∙ without_row test id s.rows)
    (cases_Bool (pulled_agrees nulls s (row_of s id) k))
  where
    test : Row → Bool
    test r = agrees nulls (key_of s r.1) k

    same_test : (o : Option (List Datum)) → passes_found test id o ≡ pulled_agrees nulls s o k
    same_test None = refl
    same_test (Some row) = refl

pub rows_pulled : (s : SideState) (id : ℕ) → AreRows s → AreRows (taken_out id s)
rows_pulled s id x = record {
  ascend = AllPairs-filter (λ (a b : Row). a.0 < b.0) (λ (r : Row). not (nat_eq id r.0)) s.rows x.ascend;
  below = All-filter (λ (r : Row). not (nat_eq id r.0)) (λ (r : Row). r.0 < s.ever) s.rows x.below;
  few = x.few;
  typed = All-filter (λ (r : Row). not (nat_eq id r.0)) (λ (r : Row). FitsFields s.columns r.1) s.rows x.typed;
  distinct = x.distinct;
}

pub pulled_left : (s : State) (ids new : Side → RowKey → List ℕ) (id : ℕ) → IsKept s ids
    → ((d : Side) (k : RowKey) → new d k ≡ (if is_side side.Left d && pulled_agrees s.join_nulls s.left (row_of s.left id) (datum k.value) then without id (ids d k) else ids d k))
    → IsKept (on_side side.Left (taken_out id) s) new
pulled_left s ids new id x put = record { left = rows_pulled s.left id x.left; right = x.right; grouped = grouped; valid = x.valid }
  where
    grouped : AreGrouped (on_side side.Left (taken_out id) s) new
    grouped side.Left k = put side.Left k
        ∙ (λ t. if pulled_agrees s.join_nulls s.left (row_of s.left id) (datum k.value) then without id (x.grouped side.Left k t) else x.grouped side.Left k t)
        ∙ agreeing_pulled s.join_nulls s.left id (datum k.value) x.left
    grouped side.Right k = put side.Right k ∙ x.grouped side.Right k

pub pulled_right : (s : State) (ids new : Side → RowKey → List ℕ) (id : ℕ) → IsKept s ids
    → ((d : Side) (k : RowKey) → new d k ≡ (if is_side side.Right d && pulled_agrees s.join_nulls s.right (row_of s.right id) (datum k.value) then without id (ids d k) else ids d k))
    → IsKept (on_side side.Right (taken_out id) s) new
pulled_right s ids new id x put = record { left = x.left; right = rows_pulled s.right id x.right; grouped = grouped; valid = x.valid }
  where
    grouped : AreGrouped (on_side side.Right (taken_out id) s) new
    grouped side.Right k = put side.Right k
        ∙ (λ t. if pulled_agrees s.join_nulls s.right (row_of s.right id) (datum k.value) then without id (x.grouped side.Right k t) else x.grouped side.Right k t)
        ∙ agreeing_pulled s.join_nulls s.right id (datum k.value) x.right
    grouped side.Left k = put side.Left k ∙ x.grouped side.Left k

-- nothing is taken out where the id isn't there
pub absent_row : (id : ℕ) (rows : List Row) → lookup (nat_eq id) rows ≡ None → filter (λ (r : Row). not (nat_eq id r.0)) rows ≡ rows
absent_row id [] none = refl
absent_row id (r ∷ rows) none = ⊎_elim
    (λ y. let found : Some r.1 ≡ None = sym (ap (λ b. cond b (Some r.1) (lookup (nat_eq id) rows)) y) ∙ none in absurd (cc))
    (λ n. let rest : filter (λ (s : Row). not (nat_eq id s.0)) rows ≡ rows = absent_row id rows (sym (ap (λ b. cond b (Some r.1) (lookup (nat_eq id) rows)) n) ∙ none) in
    λ t. cond (not (n t)) (r ∷ rest t) (rest t))
    (cases_Bool (nat_eq id r.0))
