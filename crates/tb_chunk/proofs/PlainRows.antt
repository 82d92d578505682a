-- Facts on optional values, of which the first are there.
use Rattle.std.proofs.Common.{arith, ℕ, zero, suc, ◌≡◌, ◌≤◌, ◌+◌, ◌-◌, ◌∙◌, ◌++◌, ◌∷◌, [], List, Option, Some, None, ap, sym, refl, length, map, take, drop, get_or, replicate, append-nil, length-append, length-drop, length-take-le}
use Rattle.std.specs.List.{All}
use Rattle.std.proofs.Math.Seq.{drop-nil, take-nil}
use Rattle.std.proofs.lemmas.List.{drop-append-le, drop-map, drop-replicate, get_or-replicate, length-map, length-replicate, map-append, take-append-le, take-map, take-replicate}
use Rattle.std.proofs.lemmas.List.Elements.{All-head, All-map, All-tail}
use Rattle.tb_value.specs.Promise.Datum.{Datum, null}
use Rattle.tb_cell.specs.Shown.{or_null}
use Rattle.tb_view.specs.Moved.{moved_view, number_from, view_at_number}
use Rattle.tb_view.specs.declared.view.View.{View}
use Rattle.tb_chunk.proofs.RunLayout.{views_of_none}

-- cells have no view, as many as there are
pub no_views_more : {N D : Type 0} (f : Option N → D) (xs ys zs : List (Option N)) (from n : ℕ) → from + n ≤ length zs → map f xs ≡ map f ys ++ take n (drop from (map f zs))
    → map {B = Option View} (λ _. None) xs ≡ map (λ _. None) ys ++ take n (drop from (map (λ _. None) zs))
no_views_more f xs ys zs from n within e =
    let part : length (take n (drop from (map f zs))) ≡ n = length-take-le n (drop from (map f zs)) (omega (arith, within, length-drop from (map f zs), length-map zs f)) in
    let seen : length (take n (drop from zs)) ≡ n = length-take-le n (drop from zs) (omega (arith, within, length-drop from zs)) in
    let many : length xs ≡ length (ys ++ take n (drop from zs)) =
    omega (arith, length-map xs f, length-map ys f, ap length e, length-append (map f ys) (take n (drop from (map f zs))), part, length-append ys (take n (drop from zs)), seen) in
    views_of_none xs
    ∙ ap (λ k. replicate k None) many
    ∙ sym (views_of_none (ys ++ take n (drop from zs)))
    ∙ map-append (λ _. None) ys (take n (drop from zs))
    ∙ ap (λ ws. map (λ _. None) ys ++ ws) (sym (ap (take n) (drop-map (λ _. None) from zs) ∙ take-map (λ _. None) n (drop from zs)))

pub no_views_same : {N D : Type 0} (f : Option N → D) (xs ys : List (Option N)) → map f xs ≡ map f ys → map {B = Option View} (λ _. None) xs ≡ map (λ _. None) ys
no_views_same f xs ys e =
    let many : length xs ≡ length ys = sym (length-map xs f) ∙ ap length e ∙ length-map ys f in
    views_of_none xs ∙ ap (λ k. replicate k None) many ∙ sym (views_of_none ys)

-- a part of the views of cells has none
pub all_no_views : {N : Type 0} (zs : List (Option N)) (from n : ℕ) → All (λ (v : Option View). v ≡ None) (take n (drop from (map (λ _. None) zs)))
all_no_views zs from n = rw (drop-map {Y = Option View} (λ _. None) from zs, take-map {Y = Option View} (λ _. None) n (drop from zs)) (All-map (λ (v : Option View). v ≡ None) (λ _. None) (take n (drop from zs)) (λ k d h. refl))

-- where there is no view, none is moved
placed-none : (number : Option ℕ) → view_at_number number None ≡ None
placed-none None = refl
placed-none (Some n) = refl

moved-none : (base : ℕ) → moved_view base None ≡ None
moved-none base = placed-none (number_from base None)

pub none_moved : (base : ℕ) (vs : List (Option View)) → All (λ (v : Option View). v ≡ None) vs → map (moved_view base) vs ≡ vs
none_moved base [] all = refl
none_moved base (v ∷ vs) all =
    let none : v ≡ None = All-head (λ (o : Option View). o ≡ None) v vs all in
    let head : moved_view base v ≡ v = ap (moved_view base) none ∙ moved-none base ∙ sym none in
    let tail = none_moved base vs (All-tail (λ (o : Option View). o ≡ None) v vs all) in
    λ i. head i ∷ tail i

-- so many of equal elements are as many as stand in any part of so many
pub equal_part : {X : Type 0} (x : X) (from n many : ℕ) → from + n ≤ many → take n (drop from (replicate many x)) ≡ replicate n x
equal_part x from n many within = ap (take n) (drop-replicate from many x) ∙ take-replicate n (many - from) x (omega arith)

pub equal_more : {X : Type 0} (x : X) (old n : ℕ) → replicate (old + n) x ≡ replicate old x ++ replicate n x
equal_more x zero n =
    let start : 0 + n ≡ n = omega arith in
    ap (λ k. replicate k x) start
equal_more x (suc old) n =
    let step : suc old + n ≡ suc (old + n) = omega arith in
    ap (λ k. replicate k x) step ∙ ap (λ xs. x ∷ xs) (equal_more x old n)

pub all_equal : {X : Type 0} (x : X) (n : ℕ) → All (λ y. y ≡ x) (replicate n x)
all_equal x n k d low = get_or-replicate n k x d (omega (arith, low, length-replicate n x))

-- a part and the part behind it
pub two_parts : {X : Type 0} (xs : List X) (from n count : ℕ) → n ≤ count → take n (drop from xs) ++ take (count - n) (drop (from + n) xs) ≡ take count (drop from xs)
two_parts xs from zero count few =
    let start : from + 0 ≡ from = omega arith in
    let all : count - 0 ≡ count = omega arith in
    λ i. take (all i) (drop (start i) xs)
two_parts [] from (suc n) count few = ap (λ ys. take (suc n) ys ++ take (count - suc n) (drop (from + suc n) [])) (drop-nil from) ∙ ap (take (count - suc n)) (drop-nil (from + suc n)) ∙ take-nil (count - suc n) ∙ sym (ap (take count) (drop-nil from) ∙ take-nil count)
two_parts (x ∷ xs) zero (suc n) zero few = absurd (omega arith)
two_parts (x ∷ xs) zero (suc n) (suc count) few =
    let next : 0 + suc n ≡ suc (0 + n) = omega arith in
    let left : suc count - suc n ≡ count - n = omega arith in
    (λ i. x ∷ (take n xs ++ take (left i) (drop (next i) (x ∷ xs)))) ∙ ap (λ ys. x ∷ ys) (two_parts xs 0 n count (omega (arith, few)))
two_parts (x ∷ xs) (suc from) (suc n) count few =
    let next : suc from + suc n ≡ suc (from + suc n) = omega arith in
    ap (λ k. take (suc n) (drop from xs) ++ take (count - suc n) (drop k (x ∷ xs))) next ∙ two_parts xs from (suc n) count few
