-- Values in a list and in a struct, as lists.
use Rattle.std.proofs.Common.{◌≡◌, ◌≤◌, ◌<◌, ◌+◌, ℕ, zero, suc, List, [], ◌∷◌, ◌++◌, length, map, get_or, drop, refl, ap, ◌∙◌, sym, subst, arith, add-one, append_assoc, append-nil}
use Rattle.std.proofs.lemmas.List.{get_or-map, length-map}
use Rattle.serde_json.specs.Data.{Data, item}
use Rattle.serde_json.specs.View.{items_of}
use Rattle.tb_value.specs.Promise.Datum as value
use Rattle.tb_value.specs.Promise.Datum.{Datum, weight, weights}
use Rattle.tb_value.specs.Promise.Kind.{Kind, Part, parts_of}
use Rattle.tb_value.specs.Promise.Typed.{HasType, AreOf, AreEachOf}
use Rattle.tb_value.proofs.Lengths.{AreEachOf-length}
use Rattle.tb_json.specs.Promise.Text.{value_data, items_data, fields_data}

pub items_data-map : (t : Kind) (vs : List Datum) → items_of (map (value_data t) vs) ≡ items_data t (value.items_of vs)
items_data-map t [] = refl
items_data-map t (v ∷ vs) = ap (item (value_data t v)) (items_data-map t vs)

-- no value is heavier than all of them
pub weight_in : (vs : List Datum) (i : ℕ) (v : Datum) → i < length vs → v ≡ get_or vs i v → weight v ≤ weights (value.items_of vs)
weight_in [] i v h e = absurd (omega arith)
weight_in (w ∷ vs) zero v h e = let f : weight v ≡ weight w = ap weight e in omega arith
weight_in (w ∷ vs) (suc i) v h e = omega (arith, weight_in vs i v (omega arith) e)

pub AreOf_at : (t : Kind) (vs : List Datum) (i : ℕ) (v : Datum) → i < length vs → v ≡ get_or vs i v → AreOf t (value.items_of vs) → HasType t v
AreOf_at t [] i v h e all = absurd (omega arith)
AreOf_at t (w ∷ vs) zero v h e all = subst (HasType t) (sym e) all.0
AreOf_at t (w ∷ vs) (suc i) v h e all = AreOf_at t vs i v (omega arith) e all.1

pub AreEachOf_at : (ps : List Part) (vs : List Datum) (i : ℕ) (p : Part) (v : Datum) → i < length ps → i < length vs → p ≡ get_or ps i p → v ≡ get_or vs i v → AreEachOf (parts_of ps) (value.items_of vs) → HasType p.1 v
AreEachOf_at [] vs i p v h k e f all = absurd (omega arith)
AreEachOf_at (q ∷ ps) [] i p v h k e f all = absurd (omega arith)
AreEachOf_at (q ∷ ps) (w ∷ vs) zero p v h k e f all = let P : Kind → Type 0 = λ t. HasType t v in subst P (sym (ap (λ r. r.1) e)) (subst (HasType q.1) (sym f) all.0)
AreEachOf_at (q ∷ ps) (w ∷ vs) (suc i) p v h k e f all = AreEachOf_at ps vs i p v (omega arith) (omega arith) e f all.1

-- p and v stand at place i of the two lists
pub record ArePlaced (ps : List Part) (vs : List Datum) (i : ℕ) (p : Part) (v : Datum) : Type 0 where
  pub among : i < length ps
  pub within : i < length vs
  pub of : p ≡ get_or ps i p
  pub at : v ≡ get_or vs i v

-- a field and a value that stand at one place, where the fields and the values are seen so
module _ {F V : Type 0} (f : F → Part) (g : V → Datum) (fields : List F) (values : List V) where
  pub as_many : (ps : List Part) (vs : List Datum) → map f fields ≡ ps → map g values ≡ vs → AreEachOf (parts_of ps) (value.items_of vs) → length fields ≡ length values
  as_many ps vs is_ps is_vs all =
      let a = AreEachOf-length ps vs all in
      let b : length fields ≡ length ps = sym (length-map fields f) ∙ ap length is_ps in
      let d : length values ≡ length vs = sym (length-map values g) ∙ ap length is_vs in
      omega (arith, a, b, d)

  pub placed : (i : ℕ) (x : F) (y : V) → length fields ≡ length values → i < length values → x ≡ get_or fields i x → y ≡ get_or values i y → ArePlaced (map f fields) (map g values) i (f x) (g y)
  placed i x y same low is_x is_y =
      let among : i < length fields = omega arith in
      record {
        among = rw length-map among;
        within = rw length-map low;
        of = sym (get_or-map f fields i x (f x) among ∙ ap f (sym is_x));
        at = sym (get_or-map g values i y (g y) low ∙ ap g (sym is_y));
      }

-- one value of each field
abbrev pub row_data : List Part → List Datum → List Data
row_data ps [] = []
row_data [] (v ∷ vs) = []
row_data (p ∷ ps) (v ∷ vs) = value_data p.1 v ∷ row_data ps vs

pub fields_data-row : (ps : List Part) (vs : List Datum) → items_of (row_data ps vs) ≡ fields_data (parts_of ps) (value.items_of vs)
fields_data-row [] [] = refl
fields_data-row (p ∷ ps) [] = refl
fields_data-row [] (v ∷ vs) = refl
fields_data-row (p ∷ ps) (v ∷ vs) = ap (item (value_data p.1 v)) (fields_data-row ps vs)

step : (ps : List Part) (vs : List Datum) (i : ℕ) (p : Part) (v : Datum) → i < length ps → i < length vs → p ≡ get_or ps i p → v ≡ get_or vs i v → row_data (drop i ps) (drop i vs) ≡ value_data p.1 v ∷ row_data (drop (suc i) ps) (drop (suc i) vs)
step [] vs i p v h k e f = absurd (omega arith)
step (q ∷ ps) [] i p v h k e f = absurd (omega arith)
step (q ∷ ps) (w ∷ vs) zero p v h k e f = ap (λ r. value_data r.1 w ∷ row_data ps vs) (sym e) ∙ ap (λ u. value_data p.1 u ∷ row_data ps vs) (sym f)
step (q ∷ ps) (w ∷ vs) (suc i) p v h k e f = step ps vs i p v (omega arith) (omega arith) e f

-- what is written, and what is left
abbrev pub RowSoFar : List Part → List Datum → List Data → ℕ → Type 0
RowSoFar ps vs done i = done ++ row_data (drop i ps) (drop i vs) ≡ row_data ps vs

pub RowSoFar-more : (ps : List Part) (vs : List Datum) (done : List Data) (i : ℕ) (p : Part) (v : Datum) → i < length ps → i < length vs → p ≡ get_or ps i p → v ≡ get_or vs i v → RowSoFar ps vs done i → RowSoFar ps vs (done ++ value_data p.1 v ∷ []) (i + 1)
RowSoFar-more ps vs done i p v h k e f so_far =
    rw add-one (append_assoc done (value_data p.1 v ∷ []) (row_data (drop (suc i) ps) (drop (suc i) vs)) ∙ ap (λ r. done ++ r) (sym (step ps vs i p v h k e f)) ∙ so_far)

no_fields : (vs : List Datum) → row_data [] vs ≡ []
no_fields [] = refl
no_fields (v ∷ vs) = refl

none_left : (ps : List Part) (vs : List Datum) (i : ℕ) → length vs ≤ i → row_data (drop i ps) (drop i vs) ≡ []
none_left ps [] zero h = refl
none_left ps [] (suc i) h = refl
none_left ps (v ∷ vs) zero h = absurd (omega arith)
none_left [] (v ∷ vs) (suc i) h = no_fields (drop i vs)
none_left (p ∷ ps) (v ∷ vs) (suc i) h = none_left ps vs i (omega arith)

pub RowSoFar-all : (ps : List Part) (vs : List Datum) (done : List Data) (i : ℕ) → length vs ≤ i → RowSoFar ps vs done i → items_of done ≡ fields_data (parts_of ps) (value.items_of vs)
RowSoFar-all ps vs done i h so_far = ap items_of (sym (append-nil done) ∙ ap (λ r. done ++ r) (sym (none_left ps vs i h)) ∙ so_far) ∙ fields_data-row ps vs
