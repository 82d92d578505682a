-- The pairs of a Left join of some left rows, and those of all left rows.
use Rattle.std.proofs.Common.{◌≡◌, ℕ, Bool, true, false, cond, not, List, [], ◌∷◌, ◌++◌, length, get_or, map, refl, ap, arith, sym, ◌∙◌}
use Rattle.std.specs.Prelude.{filter, ◌≢◌}
use Rattle.std.specs.List.{flat_map, list_any}
use Rattle.std.proofs.lemmas.List.{map-append, ext_get_or}
use Rattle.std.proofs.lemmas.List.FromFn.{length-map-range_with_len, get_or-map-range_with_len}
use Rattle.tb_value.specs.declared.index.JoinPair.{JoinPair}
use Rattle.tb_value.specs.Promise.Pairs.{row_numbers, both, right_only, matched_pairs, right_unmet}
use Rattle.tb_value.specs.Pairs.{turn}
use Rattle.tb_value.proofs.Kept.{filter-map}
use Rattle.tb_value.proofs.Loops.{map-map, map-flat_map, flat_map_agree}
use Rattle.tb_value.proofs.Probes.{each_left, left_pairs}
use Rattle.tb_frame.specs.declared.args.JoinType.TheVariants.{Left}
use Rattle.tb_frame.specs.declared.args.MaintainOrderJoin.{MaintainOrderJoin}
use Rattle.tb_frame.specs.declared.args.MaintainOrderJoin.TheVariants as order
use Rattle.tb_frame.specs.declared.args.Direction.{Direction}
use Rattle.tb_frame.specs.declared.args.Direction.TheVariants.{Free, ByLeft, ByRight}
use Rattle.tb_frame.specs.Promise.Join.{IsOrdered, direction, listing_of}
use Rattle.tb_frame.proofs.InOrder.{in_order, in_order-ordered, right_way}
use Rattle.tb_frame.proofs.Ordered.{one_order}
use Rattle.tb_node.specs.Kept.{kept, over_all, passes_row}

-- LISTS

filter-append : {X : Type 0} (p : X → Bool) (xs ys : List X) → filter p (xs ++ ys) ≡ filter p xs ++ filter p ys
filter-append p [] ys = refl
filter-append {X} p (x ∷ xs) ys = at (p x) (filter-append p xs ys)
  where
    at : (b : Bool) → filter p (xs ++ ys) ≡ filter p xs ++ filter p ys → cond b (x ∷ filter p (xs ++ ys)) (filter p (xs ++ ys)) ≡ cond b (x ∷ filter p xs) (filter p xs) ++ filter p ys
    at true e = ap (λ (l : List X). x ∷ l) e
    at false e = e

filter-flat_map : {X Y : Type 0} (q : Y → Bool) (f : X → List Y) (xs : List X) → filter q (flat_map f xs) ≡ flat_map (λ x. filter q (f x)) xs
filter-flat_map q f [] = refl
filter-flat_map {X} {Y} q f (x ∷ xs) = filter-append q (f x) (flat_map f xs) ∙ ap (λ (l : List Y). filter q (f x) ++ l) (filter-flat_map q f xs)

flat_map-map : {X Y Z : Type 0} (g : Y → List Z) (f : X → Y) (xs : List X) → flat_map (λ x. g (f x)) xs ≡ flat_map g (map f xs)
flat_map-map g f [] = refl
flat_map-map {X} {Y} {Z} g f (x ∷ xs) = ap (λ (l : List Z). g (f x) ++ l) (flat_map-map g f xs)

-- what is given for the elements that pass alone
flat_map-kept : {X Y : Type 0} (p : X → Bool) (g : X → List Y) (xs : List X) → flat_map (λ x. cond (p x) (g x) []) xs ≡ flat_map g (filter p xs)
flat_map-kept p g [] = refl
flat_map-kept {X} {Y} p g (x ∷ xs) = at (p x) (flat_map-kept p g xs)
  where
    at : (b : Bool) → flat_map (λ y. cond (p y) (g y) []) xs ≡ flat_map g (filter p xs) → cond b (g x) [] ++ flat_map (λ y. cond (p y) (g y) []) xs ≡ flat_map g (cond b (x ∷ filter p xs) (filter p xs))
    at true e = ap (λ (l : List Y). g x ++ l) e
    at false e = e

-- two filters, in either order
filter-filter : {X : Type 0} (p q : X → Bool) (xs : List X) → filter p (filter q xs) ≡ filter q (filter p xs)
filter-filter p q [] = refl
filter-filter {X} p q (x ∷ xs) = at (p x) (q x) refl refl (filter-filter p q xs)
  where
    at : (a b : Bool) → p x ≡ a → q x ≡ b → filter p (filter q xs) ≡ filter q (filter p xs) → filter p (cond b (x ∷ filter q xs) (filter q xs)) ≡ filter q (cond a (x ∷ filter p xs) (filter p xs))
    at true true u v e = ap (λ (c : Bool). cond c (x ∷ filter p (filter q xs)) (filter p (filter q xs))) u ∙ ap (λ (l : List X). x ∷ l) e ∙ sym (ap (λ (c : Bool). cond c (x ∷ filter q (filter p xs)) (filter q (filter p xs))) v)
    at true false u v e = e ∙ sym (ap (λ (c : Bool). cond c (x ∷ filter q (filter p xs)) (filter q (filter p xs))) v)
    at false true u v e = ap (λ (c : Bool). cond c (x ∷ filter p (filter q xs)) (filter p (filter q xs))) u ∙ e
    at false false u v e = e

-- numbers found at their own places
pub numbers_back : (xs : List ℕ) → map (λ k. get_or xs k 0) (row_numbers (length xs)) ≡ xs
numbers_back xs =
    let f : ℕ → ℕ = λ k. get_or xs k 0 in
    let long = length-map-range_with_len f 0 (length xs) in
    ext_get_or 0 (map f (row_numbers (length xs))) xs long (λ k low. get_or-map-range_with_len f 0 (length xs) k k 0 (omega (arith, long)) (omega arith))

-- PAIRS

module _ (p : ℕ → Bool) (l r : ℕ) (m : ℕ → ℕ → Bool) where
  abbrev at_row : ℕ → ℕ
  at_row k = get_or (kept p l) k 0

  abbrev up : JoinPair → JoinPair
  up = over_all p l

  abbrev passes : JoinPair → Bool
  passes pair = passes_row p pair.left

  abbrev few : ℕ → ℕ → Bool
  few i j = m (at_row i) j

  up-pairs : (i : ℕ) (js : List ℕ) → map up (left_pairs i js) ≡ left_pairs (at_row i) js
  up-pairs i [] = refl
  up-pairs i (j ∷ js) = map-map up (both i) (j ∷ js)

  passes-map : (i : ℕ) (js : List ℕ) (b : Bool) → p i ≡ b → filter passes (map (both i) js) ≡ cond b (map (both i) js) []
  passes-map i [] true e = refl
  passes-map i [] false e = refl
  passes-map i (j ∷ js) true e = ap (λ (c : Bool). cond c (both i j ∷ filter passes (map (both i) js)) (filter passes (map (both i) js))) e ∙ ap (λ (x : List JoinPair). both i j ∷ x) (passes-map i js true e)
  passes-map i (j ∷ js) false e = ap (λ (c : Bool). cond c (both i j ∷ filter passes (map (both i) js)) (filter passes (map (both i) js))) e ∙ passes-map i js false e

  passes-pairs : (i : ℕ) (js : List ℕ) → filter passes (left_pairs i js) ≡ cond (p i) (left_pairs i js) []
  passes-pairs i [] = refl
  passes-pairs i (j ∷ js) = passes-map i (j ∷ js) (p i) refl

  abbrev pairs_of : ℕ → List JoinPair
  pairs_of i = left_pairs i (filter (m i) (row_numbers r))

  by_left : map up (each_left (length (kept p l)) r few) ≡ filter passes (each_left l r m)
  by_left =
      map-flat_map up (λ i. left_pairs i (filter (few i) (row_numbers r))) (row_numbers (length (kept p l)))
      ∙ flat_map_agree (λ i. map up (left_pairs i (filter (few i) (row_numbers r)))) (λ i. pairs_of (at_row i)) (λ i. up-pairs i (filter (few i) (row_numbers r))) (row_numbers (length (kept p l)))
      ∙ flat_map-map pairs_of at_row (row_numbers (length (kept p l)))
      ∙ ap (λ (ks : List ℕ). flat_map pairs_of ks) (numbers_back (kept p l))
      ∙ sym (flat_map-kept p pairs_of (row_numbers l))
      ∙ sym (flat_map_agree (λ i. filter passes (pairs_of i)) (λ i. cond (p i) (pairs_of i) []) (λ i. passes-pairs i (filter (m i) (row_numbers r))) (row_numbers l))
      ∙ sym (filter-flat_map passes pairs_of (row_numbers l))

  -- left rows that pass a test, each as a pair
  module _ (h : ℕ → JoinPair) (lefts : (i : ℕ) → passes (h i) ≡ p i) (ups : (i : ℕ) → up (h i) ≡ h (at_row i)) (q : ℕ → Bool) where
    kept_alone : map up (map h (filter (λ i. q (at_row i)) (row_numbers (length (kept p l))))) ≡ filter passes (map h (filter q (row_numbers l)))
    kept_alone =
        let few_rows : List ℕ = row_numbers (length (kept p l)) in
        map-map up h (filter (λ i. q (at_row i)) few_rows)
        ∙ ap (λ (f : ℕ → JoinPair). map f (filter (λ i. q (at_row i)) few_rows)) (λ t i. ups i t)
        ∙ sym (map-map h at_row (filter (λ i. q (at_row i)) few_rows))
        ∙ ap (map h) (sym (filter-map at_row q few_rows))
        ∙ ap (λ (ks : List ℕ). map h (filter q ks)) (numbers_back (kept p l))
        ∙ ap (map h) (filter-filter q p (row_numbers l))
        ∙ ap (λ (f : ℕ → Bool). map h (filter f (filter q (row_numbers l)))) (λ t i. sym (lefts i) t)
        ∙ sym (filter-map h passes (filter q (row_numbers l)))

  -- the matches of a right row, turned round
  turned_row : (j : ℕ) → map up (map turn (map (both j) (filter (λ i. few i j) (row_numbers (length (kept p l)))))) ≡ filter passes (map turn (map (both j) (filter (λ i. m i j) (row_numbers l))))
  turned_row j =
      ap (map up) (map-map turn (both j) (filter (λ i. few i j) (row_numbers (length (kept p l)))))
      ∙ kept_alone (λ i. turn (both j i)) (λ i. refl) (λ i. refl) (λ i. m i j)
      ∙ ap (filter passes) (sym (map-map turn (both j) (filter (λ i. m i j) (row_numbers l))))

  turned_rows : map up (map turn (matched_pairs r (length (kept p l)) (λ j i. few i j))) ≡ filter passes (map turn (matched_pairs r l (λ j i. m i j)))
  turned_rows =
      let some : ℕ → List JoinPair = λ j. map (both j) (filter (λ i. few i j) (row_numbers (length (kept p l)))) in
      let all : ℕ → List JoinPair = λ j. map (both j) (filter (λ i. m i j) (row_numbers l)) in
      ap (map up) (map-flat_map turn some (row_numbers r))
      ∙ map-flat_map up (λ j. map turn (some j)) (row_numbers r)
      ∙ flat_map_agree (λ j. map up (map turn (some j))) (λ j. filter passes (map turn (all j))) turned_row (row_numbers r)
      ∙ sym (filter-flat_map passes (λ j. map turn (all j)) (row_numbers r))
      ∙ ap (filter passes) (sym (map-flat_map turn all (row_numbers r)))

  abbrev unmet : ℕ → Bool
  unmet i = not (list_any (m i) (row_numbers r))

  turned_unmet : map up (map turn (right_unmet r (length (kept p l)) (λ j i. few i j))) ≡ filter passes (map turn (right_unmet r l (λ j i. m i j)))
  turned_unmet =
      ap (map up) (map-map turn right_only (filter (λ i. unmet (at_row i)) (row_numbers (length (kept p l)))))
      ∙ kept_alone (λ i. turn (right_only i)) (λ i. refl) (λ i. refl) unmet
      ∙ ap (filter passes) (sym (map-map turn right_only (filter unmet (row_numbers l))))

  by_right : map up (right_way Left (length (kept p l)) r few) ≡ filter passes (right_way Left l r m)
  by_right =
      let some : List JoinPair = matched_pairs r (length (kept p l)) (λ j i. few i j) in
      let some_alone : List JoinPair = right_unmet r (length (kept p l)) (λ j i. few i j) in
      let all : List JoinPair = matched_pairs r l (λ j i. m i j) in
      let all_alone : List JoinPair = right_unmet r l (λ j i. m i j) in
      ap (map up) (map-append turn some some_alone)
      ∙ map-append up (map turn some) (map turn some_alone)
      ∙ (λ t. turned_rows t ++ turned_unmet t)
      ∙ sym (filter-append passes (map turn all) (map turn all_alone))
      ∙ ap (filter passes) (sym (map-append turn all all_alone))

  in_each : (d : Direction) → map up (in_order d Left (length (kept p l)) r few) ≡ filter passes (in_order d Left l r m)
  in_each Free = by_left
  in_each ByLeft = by_left
  in_each ByRight = by_right

fixed : (o : MaintainOrderJoin) → direction Left o ≢ Free
fixed order.None e = absurd (cc)
fixed order.Left e = absurd (cc)
fixed order.LeftRight e = absurd (cc)
fixed order.Right e = absurd (cc)
fixed order.RightLeft e = absurd (cc)

pub kept_pairs : (o : MaintainOrderJoin) (p : ℕ → Bool) (l r : ℕ) (m : ℕ → ℕ → Bool) (ps qs : List JoinPair) → IsOrdered Left o ps (listing_of Left l r m)
    → IsOrdered Left o qs (listing_of Left (length (kept p l)) r (λ i j. m (get_or (kept p l) i 0) j)) → map (over_all p l) qs ≡ filter (λ (pair : JoinPair). passes_row p pair.left) ps
kept_pairs o p l r m ps qs a b =
    let few : ℕ → ℕ → Bool = λ i j. m (get_or (kept p l) i 0) j in
    let all = in_order-ordered Left o l r m in
    let some = in_order-ordered Left o (length (kept p l)) r few in
    let is_ps = one_order (direction Left o) (fixed o) ps (in_order (direction Left o) Left l r m) (listing_of Left l r m) a.permutation all.permutation a.ascends all.ascends in
    let is_qs = one_order (direction Left o) (fixed o) qs (in_order (direction Left o) Left (length (kept p l)) r few) (listing_of Left (length (kept p l)) r few) b.permutation some.permutation b.ascends some.ascends in
    ap (map (over_all p l)) is_qs ∙ in_each p l r m (direction Left o) ∙ ap (filter (λ (pair : JoinPair). passes_row p pair.left)) (sym is_ps)
