-- What a view keeps is kept by an insert.
use Rattle.std.proofs.Common.{◌≡◌, ℕ, suc, ◌+◌, ◌<◌, Bool, true, false, cond, ◌&&◌, if◌then◌else◌, List, [], ◌∷◌, ◌++◌, length, map, refl, ap, arith, sym, ◌∙◌, subst, subst₂}
use Rattle.std.specs.Prelude.{filter, All, AllPairs}
use Rattle.std.proofs.lemmas.List.{append-nil, get_or-map, length-map, map-append}
use Rattle.std.proofs.lemmas.List.Kept.{AllPairs-cons, AllPairs-filter}
use Rattle.std.proofs.lemmas.List.Elements.{All-filter, All-map, All-push, All-tail, All-weaker, filter-append}
use Rattle.tb_value.specs.Promise.Datum.{Datum}
use Rattle.tb_value.specs.Promise.Same.{agrees}
use Rattle.tb_value.specs.Promise.Typed.{FitsFields}
use Rattle.tb_value.specs.See.{datum}
use Rattle.tb_value.specs.declared.error.Side.{Side}
use Rattle.tb_value.specs.declared.error.Side.TheVariants as side
use Rattle.tb_value.specs.declared.limits.TheConstants.{MAX_ROWS}
use Rattle.tb_delta.specs.Groups.{is_side}
use Rattle.tb_delta.specs.Inside.{AreGrouped, AreRows, IsKept, agreeing, key_of}
use Rattle.tb_delta.specs.Promise.State.{Row, SideState, State, appended, of_side, on_side}
use Rattle.tb_delta.specs.declared.key.RowKey.{RowKey}

abbrev number : Row → ℕ
number r = r.0

pub rows_of_side : (s : State) (ids : Side → RowKey → List ℕ) → IsKept s ids → (d : Side) → AreRows (of_side d s)
rows_of_side s ids x side.Left = x.left
rows_of_side s ids x side.Right = x.right

-- ids of rows that ascend
pub numbers_ascend : (xs : List Row) → AllPairs (λ (a b : Row). a.0 < b.0) xs → AllPairs ◌<◌ (map number xs)
numbers_ascend xs asc = λ i j d less low.
    let long : j < length xs = omega (arith, low, length-map xs number) in
    let short : i < length xs = omega (arith, less, long) in
    let e : Row = (0, []) in
    subst₂ ◌<◌ (sym (get_or-map number xs i e d short)) (sym (get_or-map number xs j e d long)) (asc i j e less long)

pub agreeing_ascend : (nulls : Bool) (s : SideState) (k : Datum) → AreRows s → AllPairs ◌<◌ (agreeing nulls s k)
agreeing_ascend nulls s k x = numbers_ascend (filter (λ (r : Row). agrees nulls (key_of s r.1) k) s.rows) (AllPairs-filter (λ (a b : Row). a.0 < b.0) (λ (r : Row). agrees nulls (key_of s r.1) k) s.rows x.ascend)

pub agreeing_below : (nulls : Bool) (s : SideState) (k : Datum) → AreRows s → All (λ i. i < s.ever) (agreeing nulls s k)
agreeing_below nulls s k x = All-map (λ i. i < s.ever) number (filter (λ (r : Row). agrees nulls (key_of s r.1) k) s.rows) (All-filter (λ (r : Row). agrees nulls (key_of s r.1) k) (λ (r : Row). r.0 < s.ever) s.rows x.below)

pub groups_ascend : (s : State) (ids : Side → RowKey → List ℕ) → IsKept s ids → (d : Side) (k : RowKey) → AllPairs ◌<◌ (ids d k)
groups_ascend s ids x d k = subst (λ (l : List ℕ). AllPairs ◌<◌ l) (sym (x.grouped d k)) (agreeing_ascend s.join_nulls (of_side d s) (datum k.value) (rows_of_side s ids x d))

pub groups_below : (s : State) (ids : Side → RowKey → List ℕ) → IsKept s ids → (d : Side) (k : RowKey) → All (λ i. i < (of_side d s).ever) (ids d k)
groups_below s ids x d k = subst (λ (l : List ℕ). All (λ i. i < (of_side d s).ever) l) (sym (x.grouped d k)) (agreeing_below s.join_nulls (of_side d s) (datum k.value) (rows_of_side s ids x d))

pairs_push : {X : Type 0} (R : X → X → Type 0) (xs : List X) (y : X) → AllPairs R xs → All (λ x. R x y) xs → AllPairs R (xs ++ y ∷ [])
pairs_push R [] y asc all = λ i j d less low. absurd (omega (arith, less, low))
pairs_push {X} R (x ∷ xs) y asc all = AllPairs-cons R x (xs ++ y ∷ [])
    (All-push (R x) xs y (λ k d low. asc 0 (suc k) d (omega arith) (omega (arith, low))) (all 0 x (omega arith)))
    (pairs_push R xs y (λ i j d less low. asc (suc i) (suc j) d (omega (arith, less)) (omega (arith, low))) (All-tail (λ z. R z y) x xs all))

-- a side with one more row
pub rows_appended : (s : SideState) (row : List Datum) → AreRows s → FitsFields s.columns row → s.ever < MAX_ROWS → AreRows (appended row s)
rows_appended s row x fits few = record {
  ascend = pairs_push (λ (a b : Row). a.0 < b.0) s.rows (s.ever, row) x.ascend x.below;
  below = All-push (λ (r : Row). r.0 < s.ever + 1) s.rows (s.ever, row) (All-weaker (λ (r : Row). r.0 < s.ever) (λ (r : Row). r.0 < s.ever + 1) (λ r h. omega (arith, h)) s.rows x.below) (omega arith);
  few = omega (arith, few);
  typed = All-push (λ (r : Row). FitsFields s.columns r.1) s.rows (s.ever, row) x.typed fits;
  distinct = x.distinct;
}

pub agreeing_appended : (nulls : Bool) (s : SideState) (row : List Datum) (k : Datum)
    → (if agrees nulls (key_of s row) k then agreeing nulls s k ++ s.ever ∷ [] else agreeing nulls s k) ≡ agreeing nulls (appended row s) k
agreeing_appended nulls s row k =
    let test : Row → Bool = λ r. agrees nulls (key_of s r.1) k in
    let few : List Row = filter test s.rows in
    at few (test (s.ever, row))
    ∙ sym (map-append number few (cond (test (s.ever, row)) ((s.ever, row) ∷ []) []))
    ∙ ap (map number) (sym (filter-append test s.rows ((s.ever, row) ∷ [])))
  where
    at : (few : List Row) (b : Bool) → (if b then map number few ++ s.ever ∷ [] else map number few) ≡ map number few ++ map number (cond b ((s.ever, row) ∷ []) [])
    at few true = refl
    at few false = sym (append-nil (map number few))

-- the whole view, where the groups have taken the id
pub kept_left : (s : State) (ids new : Side → RowKey → List ℕ) (row : List Datum) → IsKept s ids → FitsFields s.left.columns row → s.left.ever < MAX_ROWS
    → ((d : Side) (k : RowKey) → new d k ≡ (if is_side side.Left d && agrees s.join_nulls (key_of s.left row) (datum k.value) then ids d k ++ s.left.ever ∷ [] else ids d k))
    → IsKept (on_side side.Left (appended row) s) new
kept_left s ids new row x fits few put = record {
  left = rows_appended s.left row x.left fits few;
  right = x.right;
  grouped = grouped;
  valid = x.valid;
}
  where
    grouped : AreGrouped (on_side side.Left (appended row) s) new
    grouped side.Left k = put side.Left k
        ∙ (λ t. if agrees s.join_nulls (key_of s.left row) (datum k.value) then x.grouped side.Left k t ++ s.left.ever ∷ [] else x.grouped side.Left k t)
        ∙ agreeing_appended s.join_nulls s.left row (datum k.value)
    grouped side.Right k = put side.Right k ∙ x.grouped side.Right k

pub kept_right : (s : State) (ids new : Side → RowKey → List ℕ) (row : List Datum) → IsKept s ids → FitsFields s.right.columns row → s.right.ever < MAX_ROWS
    → ((d : Side) (k : RowKey) → new d k ≡ (if is_side side.Right d && agrees s.join_nulls (key_of s.right row) (datum k.value) then ids d k ++ s.right.ever ∷ [] else ids d k))
    → IsKept (on_side side.Right (appended row) s) new
kept_right s ids new row x fits few put = record {
  left = x.left;
  right = rows_appended s.right row x.right fits few;
  grouped = grouped;
  valid = x.valid;
}
  where
    grouped : AreGrouped (on_side side.Right (appended row) s) new
    grouped side.Right k = put side.Right k
        ∙ (λ t. if agrees s.join_nulls (key_of s.right row) (datum k.value) then x.grouped side.Right k t ++ s.right.ever ∷ [] else x.grouped side.Right k t)
        ∙ agreeing_appended s.join_nulls s.right row (datum k.value)
    grouped side.Left k = put side.Left k ∙ x.grouped side.Left k

pub kept_same : (s n : State) (ids new : Side → RowKey → List ℕ) → IsKept s ids → n ≡ s → ((d : Side) (k : RowKey) → new d k ≡ ids d k) → IsKept n new
kept_same s n ids new x same stay = subst (λ (m : State). IsKept m new) (sym same) (record { left = x.left; right = x.right; grouped = λ d k. stay d k ∙ x.grouped d k; valid = x.valid })
