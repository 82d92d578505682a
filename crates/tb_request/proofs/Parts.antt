-- The parts of chunks and runs.
use Rattle.std.proofs.Common.{◌≡◌, ◌∙◌, ℕ, List, [], ◌∷◌, map, Bool, true, false, cond, Option, Some, None, option_map, option_and_then, refl, sym, ap}
use Rattle.std.specs.Prelude.{◌==◌, ◌&&◌, ◌||◌, is_some, nat_le, not, unwrap_or}
use Rattle.serde_json.specs.Data.{Data, null, boolean, number, string, array, object, Items, no_items, item}
use Rattle.serde_json.specs.Find.{as_array}
use Rattle.serde_json.specs.View.{items_of}
use Rattle.tb_value.specs.Promise.Kind.{Kind}
use Rattle.tb_tree.specs.View.{view, listed, pair_of, two_of}
use Rattle.tb_tree.specs.declared.items.Items as lent
use Rattle.tb_tree.specs.declared.value.Value.{Value}
use Rattle.tb_json.specs.Promise.Lists.{◌>>=◌, as_list, each, list_from, list_of}
use Rattle.tb_json.proofs.LentValues.{as_list-array, as_list-other}
use Rattle.tb_json.specs.Runs as stands
use Rattle.tb_request.specs.Lent.{chunk_view, run_view}
use Rattle.tb_request.specs.Promise.Written.{holds_values, run_from, run_of, times_of, whole_of, WrittenRun}

-- ---- chunks

pub is_list : (d : Data) (o : Option lent.Items) → option_map (λ s. items_of (listed s)) o ≡ as_array d → is_some o ≡ is_some (as_list d)
is_list d None e = ap is_some (sym (as_list-other d e))
is_list d (Some s) e = ap is_some (sym (as_list-array d (listed s) e))

-- what is seen of each value, where f gives each one
module _ {B : Type 0} (f : Data → Option B) (seen : Value → B) (is : (v : Value) (y : B) → f (view v) ≡ Some y → y ≡ seen v) where
  one_more : (v : Value) (o : Option B) (r : Option (List B)) (ys : List B) → f (view v) ≡ o → is_some (option_and_then (λ y. option_map (λ zs. y ∷ zs) r) o) ≡ true → (is_some r ≡ true → Some ys ≡ r) → Some (seen v ∷ ys) ≡ option_and_then (λ y. option_map (λ zs. y ∷ zs) r) o
  one_more v None r ys e all h = absurd (cc)
  one_more v (Some y) None ys e all h = absurd (cc)
  one_more v (Some y) (Some zs) ys e all h = (λ i. Some (sym (is v y e) i ∷ ys)) ∙ ap (option_map (λ ws. y ∷ ws)) (h refl)

  each_seen : (vs : List Value) → is_some (each f (map view vs)) ≡ true → Some (map seen vs) ≡ each f (map view vs)
  each_seen [] all = refl
  each_seen (v ∷ vs) all = one_more v (f (view v)) (each f (map view vs)) (map seen vs) refl all (each_seen vs)

  -- a list of values, each of which f gives
  pub all_seen : (d : Data) (vs : List Value) → Some (map view vs) ≡ as_list d → is_some (each f (map view vs)) ≡ true → Some (map seen vs) ≡ list_of f d
  all_seen d vs e all = each_seen vs all ∙ ap (option_and_then (each f)) e

is_none : {A : Type 0} (o : Option A) → is_some o ≡ false → None ≡ o
is_none None e = refl
is_none (Some x) e = absurd (cc)

-- a list of values, one of which f doesn't give
pub none_seen : {B : Type 0} (f : Data → Option B) (d : Data) (vs : List Value) → Some (map view vs) ≡ as_list d → is_some (each f (map view vs)) ≡ false → None ≡ list_of f d
none_seen f d vs e all = is_none (each f (map view vs)) all ∙ ap (option_and_then (each f)) e

pub chunk_seen : (v : Value) (ds : List Data) → as_list (view v) ≡ Some ds → ds ≡ chunk_view v
chunk_seen v ds e = sym (ap (λ o. unwrap_or o []) e)

-- ---- runs

abbrev counted : Kind → Data × Data → Option WrittenRun
counted t p = option_map (λ times. (p.0, times)) (whole_of p.1 >>= times_of t)

run_from_two : (t : Kind) (ds : Items) → run_from t (list_from ds) ≡ option_and_then (counted t) (two_of ds)
run_from_two t no_items = refl
run_from_two t (item d no_items) = refl
run_from_two t (item d (item e no_items)) = refl
run_from_two t (item d (item e (item f ds))) = refl

-- a run is a pair whose second value is a count
pub run_of_pair : (t : Kind) (d : Data) → run_of t d ≡ option_and_then (counted t) (pair_of d)
run_of_pair t null = refl
run_of_pair t (boolean b) = refl
run_of_pair t (number n) = refl
run_of_pair t (string s) = refl
run_of_pair t (array ds) = run_from_two t ds
run_of_pair t (object ms) = refl

times_same : (t : Kind) (n m : ℕ) → times_of t n ≡ Some m → m ≡ n
times_same t n m e = kept (nat_le 1 n && (not (holds_values t) || (n == 1))) e where
  kept : (b : Bool) → cond b (Some n) None ≡ Some m → m ≡ n
  kept true x = cc
  kept false x = absurd (cc)

counted_seen : (t : Kind) (d : Data) (p : Option (Data × Data)) (r : WrittenRun) → option_and_then (counted t) p ≡ Some r → r ≡ stands.run_from d p
counted_seen t d None r e = absurd (cc)
counted_seen t d (Some (a, b)) r e = whole (whole_of b) e where
  times : (n : ℕ) (o : Option ℕ) → times_of t n ≡ o → option_map (λ times. (a, times)) o ≡ Some r → r ≡ (a, n)
  times n None is x = absurd (cc)
  times n (Some m) is x = let same = times_same t n m is in cc

  whole : (o : Option ℕ) → option_map (λ times. (a, times)) (o >>= times_of t) ≡ Some r → r ≡ (a, unwrap_or o 0)
  whole None x = absurd (cc)
  whole (Some n) x = times n (times_of t n) refl x

-- a run as it stands in the tree
pub run_seen : (t : Kind) (v : Value) (r : WrittenRun) → run_of t (view v) ≡ Some r → r ≡ run_view v
run_seen t v r e = counted_seen t (view v) (pair_of (view v)) r (sym (run_of_pair t (view v)) ∙ e)

-- whether a pair is a run
pub counted_is : (t : Kind) (d : Data) (p : Data × Data) → Some p ≡ pair_of d → is_some (whole_of p.1 >>= times_of t) ≡ is_some (run_of t d)
counted_is t d p e = mapped (whole_of p.1 >>= times_of t) ∙ ap (λ o. is_some (option_and_then (counted t) o)) e ∙ ap is_some (sym (run_of_pair t d)) where
  mapped : (o : Option ℕ) → is_some o ≡ is_some (option_map {U = WrittenRun} (λ times. (p.0, times)) o)
  mapped None = refl
  mapped (Some n) = refl

pub no_run : (t : Kind) (d : Data) → None ≡ pair_of d → false ≡ is_some (run_of t d)
no_run t d e = ap (λ o. is_some (option_and_then (counted t) o)) e ∙ ap is_some (sym (run_of_pair t d))
