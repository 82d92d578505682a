-- The values that a JSON value lends, as the definitions see them.
use Rattle.std.proofs.Common.{◌≡◌, ℕ, ◌+◌, ◌<◌, ◌≤◌, List, [], ◌∷◌, ◌++◌, map, length, get_or, drop, Option, Some, None, option_map, option_and_then, Bool, true, false, ◌&&◌, cond, String, Vec, Global, string_bytes, refl, sym, ap, ◌∙◌, arith}
use Rattle.std.proofs.lemmas.List.{get_or-map, length-map, at_drop_more, at_drop_all}
use Rattle.std.specs.Prelude.{is_some}
use Rattle.std.specs.List.{list_all}
use Rattle.std.specs.Map.{keys_of}
use Rattle.serde_json.specs.Data.{Data, null, boolean, number, string, array, object, Members}
use Rattle.serde_json.specs.Data as json
use Rattle.serde_json.specs.Find.{as_array, as_object}
use Rattle.serde_json.specs.View.{items_of}
use Rattle.tb_tree.specs.View.{view, items_view, listed, members_view}
use Rattle.tb_tree.specs.declared.items.Items.{Items}
use Rattle.tb_tree.specs.declared.value.Value.{Value}
use Rattle.tb_tree.proofs.Views.{Entry}
use Rattle.tb_json.specs.Promise.Lists.{each, list_from, as_list, list_of, is_among, are_among, has_only}
use Rattle.tb_json.proofs.Walks.{EachSoFar, EachSoFar-more, EachSoFar-fails, EachSoFar-all, EachSoFar-start, EachSoFar-next, EachSoFar-stops, EachSoFar-end}

pub list_from-items_of : (ds : List Data) → list_from (items_of ds) ≡ ds
list_from-items_of [] = refl
list_from-items_of (d ∷ ds) = ap (λ es. d ∷ es) (list_from-items_of ds)

some_parts : {A B : Type 0} (f : A → B) (x y : A) → Some x ≡ Some y → f x ≡ f y
some_parts f x y e = cc

as_list_from : (d : Data) (ds : json.Items) → Some ds ≡ as_array d → as_list d ≡ Some (list_from ds)
as_list_from null ds e = cc
as_list_from (boolean b) ds e = cc
as_list_from (number n) ds e = cc
as_list_from (string s) ds e = cc
as_list_from (array es) ds e = ap Some (some_parts list_from es ds (sym e))
as_list_from (object ms) ds e = cc

pub as_list-array : (d : Data) (ds : List Data) → Some (items_of ds) ≡ as_array d → as_list d ≡ Some ds
as_list-array d ds e = as_list_from d (items_of ds) e ∙ ap Some (list_from-items_of ds)

pub as_list-other : (d : Data) → None ≡ as_array d → as_list d ≡ None
as_list-other null e = refl
as_list-other (boolean b) e = refl
as_list-other (number n) e = refl
as_list-other (string s) e = refl
as_list-other (array es) e = cc
as_list-other (object ms) e = refl

-- ---- members

abbrev pub all_known : List (List ℕ) → List (String Global) → Bool
all_known names [] = true
all_known names (k ∷ ks) = cond (is_among (string_bytes k) names) (all_known names ks) false

are_among-members_view : (names : List (List ℕ)) (es : List Entry) → are_among names (members_view es) ≡ all_known names (keys_of es)
are_among-members_view names [] = refl
are_among-members_view names (e ∷ es) = ap (λ b. cond (is_among (string_bytes e.0) names) b false) (are_among-members_view names es)

has_only_from : (names : List (List ℕ)) (d : Data) (ms : Members) → Some ms ≡ as_object d → has_only names d ≡ are_among names ms
has_only_from names null ms e = cc
has_only_from names (boolean b) ms e = cc
has_only_from names (number n) ms e = cc
has_only_from names (string s) ms e = cc
has_only_from names (array es) ms e = cc
has_only_from names (object ns) ms e = some_parts (are_among names) ns ms (sym e)

pub has_only-object : (names : List (List ℕ)) (d : Data) (es : List Entry) → Some (members_view es) ≡ as_object d → has_only names d ≡ all_known names (keys_of es)
has_only-object names d es e = has_only_from names d (members_view es) e ∙ are_among-members_view names es

-- ---- a walk over a list, whose items g reads

abbrev pub Walk : {V A B : Type 0} → (V → A) → (A → Option B) → List V → List B → ℕ → Type 0
Walk g f vs done i = EachSoFar f (map g vs) done (drop i (map g vs))

at_item : {V A B : Type 0} (g : V → A) (f : A → Option B) (vs : List V) (i : ℕ) (v : V) → i < length vs → v ≡ get_or vs i v → f (g v) ≡ f (get_or (map g vs) i (g v))
at_item g f vs i v within is = ap (λ w. f (g w)) is ∙ ap f (sym (get_or-map g vs i v (g v) within))

pub Walk-more : {V A B : Type 0} (g : V → A) (f : A → Option B) (vs : List V) (done : List B) (i : ℕ) (v : V) (y : B) → i < length vs → v ≡ get_or vs i v → f (g v) ≡ Some y → Walk g f vs done i → Walk g f vs (done ++ y ∷ []) (i + 1)
Walk-more g f vs done i v y within is e so_far =
    EachSoFar-more f (map g vs) done i (g v) y (rw length-map within) (sym (at_item g f vs i v within is) ∙ e) so_far

pub Walk-fails : {V A B : Type 0} (g : V → A) (f : A → Option B) (vs : List V) (done : List B) (i : ℕ) (v : V) → i < length vs → v ≡ get_or vs i v → f (g v) ≡ None → Walk g f vs done i → None ≡ each f (map g vs)
Walk-fails g f vs done i v within is e so_far =
    EachSoFar-fails f (map g vs) done i (g v) (rw length-map within) (sym (at_item g f vs i v within is) ∙ e) so_far

pub Walk-all : {V A B : Type 0} (g : V → A) (f : A → Option B) (vs : List V) (done : List B) (i : ℕ) → length vs ≤ i → Walk g f vs done i → Some done ≡ each f (map g vs)
Walk-all g f vs done i past so_far = EachSoFar-all f (map g vs) done i (rw length-map past) so_far

-- ---- a walk over the values of an array

-- the first i values gave `done`
abbrev pub ItemsWalk : {B : Type 0} → (Data → Option B) → Items → List B → ℕ → Type 0
ItemsWalk f s done i = EachSoFar f (listed s) done (drop i (listed s))

module _ {B : Type 0} (f : Data → Option B) (s : Items) (done : List B) (i : ℕ) where
  pub ItemsWalk-more : (d : Data) (y : B) → i < length (listed s) → d ≡ get_or (listed s) i d → f d ≡ Some y → ItemsWalk f s done i → ItemsWalk f s (done ++ y ∷ []) (i + 1)
  ItemsWalk-more d y within is e so_far = EachSoFar-more f (listed s) done i d y within (ap f (sym is) ∙ e) so_far

  pub ItemsWalk-fails : (d : Data) → i < length (listed s) → d ≡ get_or (listed s) i d → f d ≡ None → ItemsWalk f s done i → None ≡ each f (listed s)
  ItemsWalk-fails d within is e so_far = EachSoFar-fails f (listed s) done i d within (ap f (sym is) ∙ e) so_far

  pub ItemsWalk-all : length (listed s) ≤ i → ItemsWalk f s done i → Some done ≡ each f (listed s)
  ItemsWalk-all past so_far = EachSoFar-all f (listed s) done i past so_far

-- f of each that g gives
pub each-map : {V A B : Type 0} (f : A → Option B) (g : V → A) (vs : List V) → each (λ v. f (g v)) vs ≡ each f (map g vs)
each-map f g [] = refl
each-map f g (v ∷ vs) = ap (λ r. option_and_then (λ y. option_map (λ ys. y ∷ ys) r) (f (g v))) (each-map f g vs)

-- each value of an array, under f
pub each_in : {B : Type 0} (f : Data → Option B) (d : Data) (ds : List Data) → Some (items_of ds) ≡ as_array d → list_of f d ≡ each f ds
each_in f d ds e = ap (option_and_then (each f)) (as_list-array d ds e)

-- ---- tests of the values of an array

one_more : {B : Type 0} (o : Option B) (r : Option (List B)) (b : Bool) → is_some r ≡ b → is_some (option_and_then (λ y. option_map (λ ys. y ∷ ys) r) o) ≡ is_some o && b
one_more None r b e = refl
one_more (Some y) None b e = e
one_more (Some y) (Some ys) b e = e

each_all : {A B : Type 0} (f : A → Option B) (ds : List A) → is_some (each f ds) ≡ list_all (λ d. is_some (f d)) ds
each_all f [] = refl
each_all f (d ∷ ds) = one_more (f d) (each f ds) _ (each_all f ds)

-- the test of each value of a list
pub list_of_all : {B : Type 0} (f : Data → Option B) (d : Data) (ds : List Data) → Some ds ≡ as_list d → list_all (λ e. is_some (f e)) ds ≡ is_some (list_of f d)
list_of_all f d ds e = sym (each_all f ds) ∙ ap (λ o. is_some (option_and_then (each f) o)) e

-- the test from a place on, and at the place
pub all_drop : (p : Data → Bool) (ds : List Data) (i : ℕ) (d : Data) → i < length ds → d ≡ get_or ds i d → list_all p (drop i ds) ≡ p d && list_all p (drop (i + 1) ds)
all_drop p ds i d within is = at_drop_more (list_all p) ds i d within ∙ ap (λ e. p e && list_all p (drop (i + 1) ds)) (sym is)

pub all_over : (p : Data → Bool) (ds : List Data) (i : ℕ) → length ds ≤ i → list_all p (drop i ds) ≡ true
all_over p ds i past = at_drop_all (list_all p) ds i past

-- two values and no others
pub two_listed : (ds : List Data) (a b : Data) → length ds ≡ 2 → a ≡ get_or ds 0 a → b ≡ get_or ds 1 b → ds ≡ a ∷ b ∷ []
two_listed [] a b two first second = absurd (omega (arith, two))
two_listed (c ∷ []) a b two first second = absurd (omega (arith, two))
two_listed (c ∷ d ∷ []) a b two first second = ap (λ x. x ∷ d ∷ []) (sym first) ∙ ap (λ x. a ∷ x ∷ []) (sym second)
two_listed (c ∷ d ∷ e ∷ ds) a b two first second = absurd (omega (arith, two))

-- ---- values that are taken out of a list one after another, the first of which gave `done`

abbrev pub Taking : {V A B : Type 0} → (V → A) → (A → Option B) → List V → List B → List V → Type 0
Taking g f all done rest = EachSoFar f (map g all) done (map g rest)

pub Taking-start : {V A B : Type 0} (g : V → A) (f : A → Option B) (all : List V) → Taking g f all [] all
Taking-start g f all = EachSoFar-start f (map g all)

pub Taking-next : {V A B : Type 0} (g : V → A) (f : A → Option B) (all : List V) (done : List B) (old : List V) (v : V) (new : List V) (y : B) → old ≡ v ∷ new → f (g v) ≡ Some y → Taking g f all done old → Taking g f all (done ++ y ∷ []) new
Taking-next g f all done old v new y is e so_far = EachSoFar-next f (map g all) done (g v) (map g new) y e (rw is at so_far)

pub Taking-stops : {V A B : Type 0} (g : V → A) (f : A → Option B) (all : List V) (done : List B) (old : List V) (v : V) (new : List V) → old ≡ v ∷ new → f (g v) ≡ None → Taking g f all done old → None ≡ each f (map g all)
Taking-stops g f all done old v new is e so_far = EachSoFar-stops f (map g all) done (g v) (map g new) e (rw is at so_far)

pub Taking-end : {V A B : Type 0} (g : V → A) (f : A → Option B) (all : List V) (done : List B) (rest : List V) → length rest ≡ 0 → Taking g f all done rest → Some done ≡ each f (map g all)
Taking-end g f all done [] none so_far = EachSoFar-end f (map g all) done so_far
Taking-end g f all done (v ∷ rest) none so_far = absurd (omega (arith, none))

-- the values that an array owns
pub as_list-taken : (d : Data) (o : Option (Vec Value Global)) → option_map (λ vs. items_view vs.items) o ≡ as_array d → option_map (λ vs. map view vs.items) o ≡ as_list d
as_list-taken d None e = sym (as_list-other d e)
as_list-taken d (Some vs) e = sym (as_list-array d (map view vs.items) e)

-- each value that was taken out of an array, under f
pub each_taken : {B : Type 0} (f : Data → Option B) (d : Data) (all vs : List Value) → Some (map view vs) ≡ as_list d → all ≡ vs → list_of f d ≡ each f (map view all)
each_taken f d all vs e same = ap (option_and_then (each f)) (sym e) ∙ ap (λ ws. each f (map view ws)) (sym same)
