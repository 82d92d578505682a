use Rattle.tb_value.specs.Promise.Same.{same, same_items}
use Rattle.std.proofs.Common.{ℕ, zero, ◌<◌, ◌≤◌, get_or, arith, Bool, true, false, ◌&&◌, ◌≡◌, ◌∙◌, List, [], ◌∷◌, length, map, refl, ap, sym, suc}
use Rattle.tb_value.specs.Promise.Datum.{Datum, items_of, data_in, weight, weights}
use Rattle.tb_value.specs.See.{datum}
use Rattle.tb_value.specs.declared.any_value.AnyValue.{AnyValue}
use Rattle.tb_value.specs.Promise.Kind.{Part, Parts, parts_of, end, part}
use Rattle.tb_value.specs.Promise.Typed.{AreEachOf}

-- a struct has as many values as fields
pub AreEachOf-length : (ps : List Part) (vs : List Datum) → AreEachOf (parts_of ps) (items_of vs) → length ps ≡ length vs
AreEachOf-length [] [] h = refl
AreEachOf-length [] (v ∷ vs) h = absurd h
AreEachOf-length (p ∷ ps) [] h = absurd h
AreEachOf-length (p ∷ ps) (v ∷ vs) h = ap (λ n. suc n) (AreEachOf-length ps vs h.1)

-- a value weighs no more than all values beside it
pub item_lighter : (xs : List AnyValue) (i : ℕ) (d : AnyValue) → i < length xs → weight (datum (get_or xs i d)) ≤ weights (items_of (map datum xs))
item_lighter [] i d low = absurd (omega (arith, low))
item_lighter (x ∷ xs) zero d low = omega arith
item_lighter (x ∷ xs) (suc i) d low = omega (arith, item_lighter xs i d (omega (arith, low)))

-- one test that fails
pub false_and : (b c : Bool) → false ≡ c → false ≡ (b && c)
false_and true c e = e
false_and false c e = refl

-- lists of different lengths are not the same
pub lengths_differ : (xs ys : List Datum) → (length xs ≡ length ys → ⊥) → false ≡ same_items (items_of xs) (items_of ys)
lengths_differ [] [] h = absurd (h refl)
lengths_differ [] (y ∷ ys) h = refl
lengths_differ (x ∷ xs) [] h = refl
lengths_differ (x ∷ xs) (y ∷ ys) h = false_and (same x y) (same_items (items_of xs) (items_of ys)) (lengths_differ xs ys (λ e. h (ap (λ n. suc n) e)))

pub length-data_in : (xs : List AnyValue) → length (data_in (items_of (map datum xs))) ≡ length xs
length-data_in [] = refl
length-data_in (x ∷ xs) = ap (λ n. suc n) (length-data_in xs)

-- values as a chain, and as the list again
data_in-items_of : (vs : List Datum) → data_in (items_of vs) ≡ vs
data_in-items_of [] = refl
data_in-items_of (v ∷ vs) = ap (λ ws. v ∷ ws) (data_in-items_of vs)

pub items_of-inj : (xs ys : List Datum) → items_of xs ≡ items_of ys → xs ≡ ys
items_of-inj xs ys e = sym (data_in-items_of xs) ∙ ap data_in e ∙ data_in-items_of ys

-- fields as a chain, and as the list again
abbrev parts_in : Parts → List Part
parts_in end = []
parts_in (part n t ps) = (n, t) ∷ parts_in ps

parts_in-parts_of : (ps : List Part) → parts_in (parts_of ps) ≡ ps
parts_in-parts_of [] = refl
parts_in-parts_of (p ∷ ps) = ap (λ qs. p ∷ qs) (parts_in-parts_of ps)

pub parts_of-inj : (ps qs : List Part) → parts_of ps ≡ parts_of qs → ps ≡ qs
parts_of-inj ps qs e = sym (parts_in-parts_of ps) ∙ ap parts_in e ∙ parts_in-parts_of qs
