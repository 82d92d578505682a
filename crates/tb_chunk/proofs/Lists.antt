-- Facts on lists.
use Rattle.std.proofs.Common.{arith, ◌≡◌, ℕ, ◌<◌, ◌≤◌, ◌+◌, suc, zero, refl, List, [], ◌∷◌, ◌++◌, length, map, get_or, take, drop, replicate, Option, Some, None, subst, sym, ◌∙◌, ap, add-one, drop-cons}
use Rattle.std.specs.List.{All}
use Rattle.tb_value.specs.Promise.Datum.{Datum, null}
use Rattle.tb_chunk.specs.Promise.Col.{concatenation}
use Rattle.tb_chunk.specs.Rows.{IsRowOf, value_or_null}
use Rattle.std.proofs.lemmas.List.{length-map}
use Rattle.std.proofs.Math.ListN.{get_or-map}
use Rattle.std.proofs.lemmas.List.Elements.{All-get_or, All-head, All-tail, All-map}

-- what holds of each image holds of the image of an element
pub All-map-at : {X Y : Type 0} (P : Y → Type 0) (f : X → Y) (xs : List X) (i : ℕ) (x : X) → i < length xs → x ≡ get_or xs i x → All P (map f xs) → P (f x)
All-map-at P f xs i x h e all = subst P (get_or-map f xs i x ∙ ap f (sym e)) (All-get_or P (map f xs) i (f x) (rw (length-map xs f) h) all)

-- what is left is the next piece and then what is left after it
pub flat_drop : {X : Type 0} (f : X → List Datum) (xs : List X) (i : ℕ) (x : X) → i < length xs → x ≡ get_or xs i x → concatenation (map f (drop i xs)) ≡ f x ++ concatenation (map f (drop (i + 1) xs))
flat_drop f xs i x h e = rw (add-one, drop-cons xs i x) (ap (λ y. f y ++ concatenation (map f (drop (suc i) xs))) (sym e))

-- a list of nulls, from its length
pub replicate-nulls : (vs : List Datum) → All (λ v. v ≡ null) vs → replicate (length vs) null ≡ vs
replicate-nulls [] all = refl
replicate-nulls (v ∷ vs) all =
    let h : null ≡ v = sym (All-head (λ x. x ≡ null) v vs all) in
    let t : replicate (length vs) null ≡ vs = replicate-nulls vs (All-tail (λ x. x ≡ null) v vs all) in
    λ i. h i ∷ t i

-- what holds of Null and of each value holds of the value of a row, and of those of many
value_of_row : (P : Datum → Type 0) (xs : List Datum) (row : Option ℕ) → P null → All P xs → IsRowOf (length xs) row → P (value_or_null xs row)
value_of_row P xs None none all within = none
value_of_row P xs (Some i) none all within = all i null within

pub All-picked : {R : Type 0} (P : Datum → Type 0) (xs : List Datum) (number : R → Option ℕ) (rows : List R) → P null → All P xs → All (λ r. IsRowOf (length xs) (number r)) rows → All P (map (λ r. value_or_null xs (number r)) rows)
All-picked P xs number rows none all within = All-map P (λ r. value_or_null xs (number r)) rows (λ k d h. value_of_row P xs (number (get_or rows k d)) none all (within k d h))
