-- Walks over the values of a list and of a struct.
use Rattle.std.proofs.Common.{◌≡◌, ℕ, zero, suc, ◌+◌, ◌<◌, ◌≤◌, List, [], ◌∷◌, ◌++◌, length, map, get_or, take, drop, Option, Some, None, option_map, option_and_then, refl, sym, ap, ◌∙◌, arith, add-one}
use Rattle.std.proofs.lemmas.List.{at_drop_more, at_drop_all, get_or-map}
use Rattle.std.specs.List.{All}
use Rattle.std.proofs.lemmas.List.Elements.{All-head, All-tail}
use Rattle.serde_json.specs.Data.{Data}
use Rattle.serde_json.specs.View.{items_of}
use Rattle.tb_value.specs.Promise.Datum as value
use Rattle.tb_value.specs.Promise.Datum.{Datum}
use Rattle.tb_value.specs.Promise.Kind.{Kind, Part, parts_of}
use Rattle.tb_value.specs.Promise.Typed.{HasType, AreOf, AreEachOf}
use Rattle.tb_json.specs.Promise.Lists.{each}
use Rattle.tb_json.specs.Promise.Cells.{cell_in, items_in, row_in}

-- ---- values of one type

one_more : (o : Option Datum) (r : Option (List Datum)) (q : Option value.Items) → q ≡ option_map value.items_of r
    → option_and_then (λ v. option_map (value.more v) q) o ≡ option_map value.items_of (option_and_then (λ v. option_map (λ vs. v ∷ vs) r) o)
one_more None r q e = refl
one_more (Some v) None q e = ap (option_map (value.more v)) e
one_more (Some v) (Some vs) q e = ap (option_map (value.more v)) e

pub items_in-each : (t : Kind) (ds : List Data) → items_in t (items_of ds) ≡ option_map value.items_of (each (cell_in t) ds)
items_in-each t [] = refl
items_in-each t (d ∷ ds) = one_more (cell_in t d) (each (cell_in t) ds) (items_in t (items_of ds)) (items_in-each t ds)

pub AreOf-All : (t : Kind) (vs : List Datum) → All (HasType t) vs → AreOf t (value.items_of vs)
AreOf-All t [] all = tt
AreOf-All t (v ∷ vs) all = (All-head (HasType t) v vs all, AreOf-All t vs (All-tail (HasType t) v vs all))

-- ---- one value of each field

abbrev pub before : List Datum → value.Items → value.Items
before [] r = r
before (v ∷ vs) r = value.more v (before vs r)

abbrev row : List Part → List Data → Option value.Items
row ps ds = row_in (parts_of ps) (items_of ds)

-- the first fields gave `done`
abbrev pub FieldsSoFar : List Part → List Data → List Datum → ℕ → Type 0
FieldsSoFar ps ds done i = row_in (parts_of ps) (items_of ds) ≡ option_map (before done) (row_in (parts_of (drop i ps)) (items_of (drop i ds)))

same : {A : Type 0} (o : Option A) → o ≡ option_map (λ x. x) o
same None = refl
same (Some x) = refl

pub FieldsSoFar-start : (ps : List Part) (ds : List Data) → FieldsSoFar ps ds [] 0
FieldsSoFar-start ps ds = same (row ps ds)

-- what is read at a place is read of the item there by the field there, where fields are seen so
pub read_at : {F : Type 0} (f : F → Part) (fields : List F) (ds : List Data) (i : ℕ) (x : F) (d : Data) → i < length fields → x ≡ get_or fields i x → d ≡ get_or ds i d
    → cell_in (get_or (map f fields) i (f x)).1 (get_or ds i d) ≡ cell_in (f x).1 d
read_at f fields ds i x d h is_x is_d =
    ap (λ p. cell_in p.1 (get_or ds i d)) (get_or-map f fields i x (f x) h ∙ ap f (sym is_x)) ∙ ap (cell_in (f x).1) (sym is_d)

before-push : (done : List Datum) (v : Datum) (r : value.Items) → before done (value.more v r) ≡ before (done ++ v ∷ []) r
before-push [] v r = refl
before-push (u ∷ done) v r = ap (value.more u) (before-push done v r)

moved : (done : List Datum) (v : Datum) (o : Option value.Items) → option_map (before done) (option_map (value.more v) o) ≡ option_map (before (done ++ v ∷ [])) o
moved done v None = refl
moved done v (Some r) = ap Some (before-push done v r)

step : (ps : List Part) (ds : List Data) (i : ℕ) (p : Part) (d : Data) → i < length ps → i < length ds
    → row (drop i ps) (drop i ds) ≡ option_and_then (λ v. option_map (value.more v) (row (drop (i + 1) ps) (drop (i + 1) ds))) (cell_in (get_or ps i p).1 (get_or ds i d))
step ps ds i p d h k = at_drop_more (λ qs. row qs (drop i ds)) ps i p h ∙ at_drop_more (λ es. row (get_or ps i p ∷ drop (i + 1) ps) es) ds i d k

pub FieldsSoFar-more : (ps : List Part) (ds : List Data) (done : List Datum) (i : ℕ) (p : Part) (d : Data) (v : Datum) → i < length ps → i < length ds
    → cell_in (get_or ps i p).1 (get_or ds i d) ≡ Some v → FieldsSoFar ps ds done i → FieldsSoFar ps ds (done ++ v ∷ []) (i + 1)
FieldsSoFar-more ps ds done i p d v h k e so_far =
    so_far ∙ ap (option_map (before done)) (step ps ds i p d h k ∙ ap (option_and_then (λ u. option_map (value.more u) (row (drop (i + 1) ps) (drop (i + 1) ds)))) e)
    ∙ moved done v (row (drop (i + 1) ps) (drop (i + 1) ds))

pub FieldsSoFar-fails : (ps : List Part) (ds : List Data) (done : List Datum) (i : ℕ) (p : Part) (d : Data) → i < length ps → i < length ds
    → cell_in (get_or ps i p).1 (get_or ds i d) ≡ None → FieldsSoFar ps ds done i → None ≡ row_in (parts_of ps) (items_of ds)
FieldsSoFar-fails ps ds done i p d h k e so_far =
    sym (so_far ∙ ap (option_map (before done)) (step ps ds i p d h k ∙ ap (option_and_then (λ u. option_map (value.more u) (row (drop (i + 1) ps) (drop (i + 1) ds)))) e))

before-none : (done : List Datum) → before done value.end ≡ value.items_of done
before-none [] = refl
before-none (v ∷ done) = ap (value.more v) (before-none done)

pub FieldsSoFar-all : (ps : List Part) (ds : List Data) (done : List Datum) (i : ℕ) → length ps ≤ i → length ds ≤ i → FieldsSoFar ps ds done i → Some (value.items_of done) ≡ row_in (parts_of ps) (items_of ds)
FieldsSoFar-all ps ds done i h k so_far =
    sym (so_far ∙ ap (option_map (before done)) (at_drop_all (λ qs. row qs (drop i ds)) ps i h ∙ at_drop_all (λ es. row [] es) ds i k) ∙ ap Some (before-none done))

none_then : (o : Option Datum) (r : Option value.Items) → r ≡ None → option_and_then (λ v. option_map (value.more v) r) o ≡ None
none_then None r e = refl
none_then (Some v) r e = ap (option_map (value.more v)) e

pub row-uneven : (ps : List Part) (ds : List Data) → (length ds ≡ length ps → ⊥) → None ≡ row_in (parts_of ps) (items_of ds)
row-uneven [] [] h = absurd (h refl)
row-uneven [] (d ∷ ds) h = refl
row-uneven (p ∷ ps) [] h = refl
row-uneven (p ∷ ps) (d ∷ ds) h = sym (none_then (cell_in p.1 d) (row ps ds) (sym (row-uneven ps ds (λ e. h (ap suc e)))))

-- the first fields' values are of their types
abbrev pub TypedSoFar : List Part → List Datum → ℕ → Type 0
TypedSoFar ps vs i = AreEachOf (parts_of (take i ps)) (value.items_of vs)

pub TypedSoFar-start : (ps : List Part) → TypedSoFar ps [] 0
TypedSoFar-start [] = tt
TypedSoFar-start (p ∷ ps) = tt

pub TypedSoFar-more : (ps : List Part) (vs : List Datum) (i : ℕ) (p : Part) (v : Datum) → i < length ps → HasType (get_or ps i p).1 v → TypedSoFar ps vs i → TypedSoFar ps (vs ++ v ∷ []) (i + 1)
TypedSoFar-more [] vs i p v h typed so_far = absurd (omega arith)
TypedSoFar-more (q ∷ ps) [] zero p v h typed so_far = (typed, tt)
TypedSoFar-more (q ∷ ps) (u ∷ vs) zero p v h typed so_far = absurd so_far
TypedSoFar-more (q ∷ ps) [] (suc i) p v h typed so_far = absurd so_far
TypedSoFar-more (q ∷ ps) (u ∷ vs) (suc i) p v h typed so_far =
    rw add-one (so_far.0, rw add-one at (TypedSoFar-more ps vs i p v (omega arith) typed so_far.1))
