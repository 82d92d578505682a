-- The pairs of a listing in the order of the left rows, each with its matches or alone.
use Rattle.std.proofs.Common.{◌≡◌, ℕ, zero, suc, ◌+◌, ◌<◌, Bool, true, false, cond, not, List, [], ◌∷◌, ◌++◌, length, get_or, map, refl, ap, arith, sym, ◌∙◌, subst, Option, Some, None}
use Rattle.std.specs.Prelude.{filter, IsSorted, IsPermutation, All, ◌||◌}
use Rattle.std.specs.List.{flat_map, list_any, range_with_len}
use Rattle.std.specs.declared.cmp.Ordering.{Ordering}
use Rattle.std.specs.declared.cmp.Ordering.TheVariants.{Greater}
use Rattle.std.specs.Ordering.{is_lt, ordering_then}
use Rattle.std.proofs.lemmas.List.{append-nil, length-map, get_or-map}
use Rattle.std.proofs.lemmas.List.Elements.{All-nil, All-cons, All-map, All-weaker}
use Rattle.std.proofs.lemmas.List.Sorted.{IsPermutation-append_left}
use Rattle.tb_value.specs.declared.index.JoinPair.{JoinPair}
use Rattle.tb_value.specs.Promise.Pairs.{row_numbers, both, left_only, right_only, matched_pairs, left_unmet, right_unmet, row_cmp, left_first, right_first}
use Rattle.tb_value.specs.Pairs.{turn}
use Rattle.tb_value.proofs.Ascending.{Ascends_by, Ascends_by-append, Ascends_by-map, NotBelow, sorted_from-Ascends_by, kept_ascend, nat_cmp_above, later_right, All-flat_map}
use Rattle.tb_value.proofs.Loops.{flat_map_agree, zipped, permuted}

-- a left row with its matches, or alone
abbrev pub left_pairs : ℕ → List ℕ → List JoinPair
left_pairs i [] = left_only i ∷ []
left_pairs i (j ∷ js) = map (both i) (j ∷ js)

abbrev pub each_left : ℕ → ℕ → (ℕ → ℕ → Bool) → List JoinPair
each_left l r m = flat_map (λ i. left_pairs i (filter (m i) (row_numbers r))) (row_numbers l)

-- THE SAME PAIRS

alone : (f : ℕ → JoinPair) (p : ℕ → Bool) (is : List ℕ) → map f (filter p is) ≡ flat_map (λ i. cond (p i) (f i ∷ []) []) is
alone f p [] = refl
alone f p (i ∷ is) = at (p i) (alone f p is)
  where
    at : (b : Bool) → map f (filter p is) ≡ flat_map (λ k. cond (p k) (f k ∷ []) []) is → map f (cond b (i ∷ filter p is) (filter p is)) ≡ cond b (f i ∷ []) [] ++ flat_map (λ k. cond (p k) (f k ∷ []) []) is
    at true e = λ t. f i ∷ e t
    at false e = e

abbrev has_some : List ℕ → Bool
has_some [] = false
has_some (j ∷ js) = true

any_kept : (p : ℕ → Bool) (js : List ℕ) → list_any p js ≡ has_some (filter p js)
any_kept p [] = refl
any_kept p (j ∷ js) = at (p j) (any_kept p js)
  where
    at : (b : Bool) → list_any p js ≡ has_some (filter p js) → (b || list_any p js) ≡ has_some (cond b (j ∷ filter p js) (filter p js))
    at true e = refl
    at false e = e

joined_row : (i : ℕ) (js : List ℕ) → map (both i) js ++ cond (not (has_some js)) (left_only i ∷ []) [] ≡ left_pairs i js
joined_row i [] = refl
joined_row i (j ∷ js) = append-nil (map (both i) (j ∷ js))

row_is : (r : ℕ) (m : ℕ → ℕ → Bool) (i : ℕ) → map (both i) (filter (m i) (row_numbers r)) ++ cond (not (list_any (m i) (row_numbers r))) (left_only i ∷ []) [] ≡ left_pairs i (filter (m i) (row_numbers r))
row_is r m i = ap (λ (b : Bool). map (both i) (filter (m i) (row_numbers r)) ++ cond (not b) (left_only i ∷ []) []) (any_kept (m i) (row_numbers r)) ∙ joined_row i (filter (m i) (row_numbers r))

pub each_left-permutation : (l r : ℕ) (m : ℕ → ℕ → Bool) → IsPermutation (matched_pairs l r m ++ left_unmet l r m) (each_left l r m)
each_left-permutation l r m =
    let f : ℕ → List JoinPair = λ i. map (both i) (filter (m i) (row_numbers r)) in
    let g : ℕ → List JoinPair = λ i. cond (not (list_any (m i) (row_numbers r))) (left_only i ∷ []) [] in
    let unmet : left_unmet l r m ≡ flat_map g (row_numbers l) = alone left_only (λ i. not (list_any (m i) (row_numbers r))) (row_numbers l) in
    let rows : flat_map (λ i. f i ++ g i) (row_numbers l) ≡ each_left l r m = flat_map_agree (λ i. f i ++ g i) (λ i. left_pairs i (filter (m i) (row_numbers r))) (row_is r m) (row_numbers l) in
    let both_loops : IsPermutation (matched_pairs l r m ++ flat_map g (row_numbers l)) (each_left l r m) = permuted (matched_pairs l r m ++ flat_map g (row_numbers l)) (flat_map (λ i. f i ++ g i) (row_numbers l)) (each_left l r m) rows (zipped f g (row_numbers l)) in
    subst (λ (x : List JoinPair). IsPermutation (matched_pairs l r m ++ x) (each_left l r m)) (sym unmet) both_loops

-- and with the right rows that match none
pub each_row-permutation : (l r : ℕ) (m : ℕ → ℕ → Bool) → IsPermutation (matched_pairs l r m ++ left_unmet l r m ++ right_unmet l r m) (each_left l r m ++ right_unmet l r m)
each_row-permutation l r m = IsPermutation-append_left (right_unmet l r m) (matched_pairs l r m ++ left_unmet l r m) (each_left l r m) (each_left-permutation l r m)

-- THEIR ORDER

-- no left row, or a later one
abbrev LeftAfter : ℕ → Option ℕ → Type 0
LeftAfter i None = Unit {0}
LeftAfter i (Some j) = i < j

above : (i : ℕ) (o : Option ℕ) → LeftAfter i o → row_cmp o (Some i) ≡ Greater
above i None h = refl
above i (Some j) h = nat_cmp_above i j h

later : (i : ℕ) (p q : JoinPair) → p.left ≡ Some i → LeftAfter i q.left → NotBelow left_first p q
later i p q e h = ap (λ (o : Ordering). is_lt (ordering_then o (row_cmp q.right p.right))) (ap (row_cmp q.left) e ∙ above i q.left h)

module _ (f : ℕ → List JoinPair) (each : (i : ℕ) → Ascends_by (NotBelow left_first) (f i)) (lefts : (i : ℕ) → All (λ (p : JoinPair). p.left ≡ Some i) (f i)) where
  all_later : (i a n : ℕ) (p : JoinPair) → i < a → p.left ≡ Some i → All (NotBelow left_first p) (flat_map f (range_with_len a n))
  all_later i a n p low e = All-flat_map (NotBelow left_first p) f a a n (omega arith) (λ j le. All-weaker (λ (q : JoinPair). q.left ≡ Some j) (NotBelow left_first p) (λ q is. later i p q e (subst (λ (o : Option ℕ). LeftAfter i o) (sym is) (omega arith))) (f j) (lefts j))

  blocks_ascend : (a n : ℕ) → Ascends_by (NotBelow left_first) (flat_map f (range_with_len a n))
  blocks_ascend a zero = tt
  blocks_ascend a (suc n) =
      Ascends_by-append (NotBelow left_first) (f a) (flat_map f (range_with_len (a + 1) n)) (each a) (blocks_ascend (a + 1) n)
      (All-weaker (λ (p : JoinPair). p.left ≡ Some a) (λ p. All (NotBelow left_first p) (flat_map f (range_with_len (a + 1) n))) (λ p e. all_later a (a + 1) n p (omega arith) e) (f a) (lefts a))

  -- pairs without a left row come after them
  before_right : (a n : ℕ) (us : List ℕ) → All (λ p. All (NotBelow left_first p) (map right_only us)) (flat_map f (range_with_len a n))
  before_right a n us = All-flat_map (λ p. All (NotBelow left_first p) (map right_only us)) f a a n (omega arith) (λ j le.
      All-weaker (λ (p : JoinPair). p.left ≡ Some j) (λ p. All (NotBelow left_first p) (map right_only us)) (λ p e. All-map (NotBelow left_first p) right_only us (λ k d low. later j p (right_only (get_or us k d)) e tt)) (f j) (lefts j))

  right_ascend : (q : ℕ → Bool) (r : ℕ) → Ascends_by (NotBelow left_first) (map right_only (filter q (row_numbers r)))
  right_ascend q r = Ascends_by-map (NotBelow left_first) ◌<◌ right_only (λ i j h. ap is_lt (nat_cmp_above i j h)) (filter q (row_numbers r)) (kept_ascend q 0 r)

  pub blocks-sorted : (l : ℕ) → IsSorted left_first (flat_map f (row_numbers l))
  blocks-sorted l = sorted_from-Ascends_by left_first (flat_map f (row_numbers l)) (blocks_ascend 0 l)

  pub blocks_then-sorted : (l r : ℕ) (q : ℕ → Bool) → IsSorted left_first (flat_map f (row_numbers l) ++ map right_only (filter q (row_numbers r)))
  blocks_then-sorted l r q = sorted_from-Ascends_by left_first (flat_map f (row_numbers l) ++ map right_only (filter q (row_numbers r))) (Ascends_by-append (NotBelow left_first) (flat_map f (row_numbers l)) (map right_only (filter q (row_numbers r))) (blocks_ascend 0 l) (right_ascend q r) (before_right 0 l (filter q (row_numbers r))))

-- each pair of a left row has it
row_lefts : (i : ℕ) (js : List ℕ) → All (λ (p : JoinPair). p.left ≡ Some i) (map (both i) js)
row_lefts i js = All-map (λ (p : JoinPair). p.left ≡ Some i) (both i) js (λ k d low. refl)

pairs_lefts : (i : ℕ) (js : List ℕ) → All (λ (p : JoinPair). p.left ≡ Some i) (left_pairs i js)
pairs_lefts i [] = All-cons (λ (p : JoinPair). p.left ≡ Some i) (left_only i) [] refl (All-nil (λ (p : JoinPair). p.left ≡ Some i))
pairs_lefts i (j ∷ js) = row_lefts i (j ∷ js)

pairs_ascend : (i : ℕ) (js : List ℕ) → Ascends_by ◌<◌ js → Ascends_by (NotBelow left_first) (left_pairs i js)
pairs_ascend i [] a = (All-nil (NotBelow left_first (left_only i)), tt)
pairs_ascend i (j ∷ js) a = Ascends_by-map (NotBelow left_first) ◌<◌ (both i) (later_right i) (j ∷ js) a

module _ (l r : ℕ) (m : ℕ → ℕ → Bool) where
  row_ascends : (i : ℕ) → Ascends_by (NotBelow left_first) (map (both i) (filter (m i) (row_numbers r)))
  row_ascends i = Ascends_by-map (NotBelow left_first) ◌<◌ (both i) (later_right i) (filter (m i) (row_numbers r)) (kept_ascend (m i) 0 r)

  left_ascends : (i : ℕ) → Ascends_by (NotBelow left_first) (left_pairs i (filter (m i) (row_numbers r)))
  left_ascends i = pairs_ascend i (filter (m i) (row_numbers r)) (kept_ascend (m i) 0 r)

  -- the left rows in order, each with its matches or alone
  pub each_left-sorted : IsSorted left_first (each_left l r m)
  each_left-sorted = blocks-sorted (λ i. left_pairs i (filter (m i) (row_numbers r))) left_ascends (λ i. pairs_lefts i (filter (m i) (row_numbers r))) l

  -- and then the right rows that match none
  pub each_row-sorted : IsSorted left_first (each_left l r m ++ right_unmet l r m)
  each_row-sorted = blocks_then-sorted (λ i. left_pairs i (filter (m i) (row_numbers r))) left_ascends (λ i. pairs_lefts i (filter (m i) (row_numbers r))) l r (λ j. not (list_any (λ i. m i j) (row_numbers l)))

  -- the matched_pairs pairs, and then the right rows that match none
  pub matched_then-sorted : IsSorted left_first (matched_pairs l r m ++ right_unmet l r m)
  matched_then-sorted = blocks_then-sorted (λ i. map (both i) (filter (m i) (row_numbers r))) row_ascends (λ i. row_lefts i (filter (m i) (row_numbers r))) l r (λ j. not (list_any (λ i. m i j) (row_numbers l)))

-- PAIRS TURNED ROUND

pub turn_twice : (ps : List JoinPair) → map turn (map turn ps) ≡ ps
turn_twice [] = refl
turn_twice (p ∷ ps) = λ t. p ∷ turn_twice ps t

pub turned_to_left : (ps : List JoinPair) → IsSorted right_first ps → IsSorted left_first (map turn ps)
turned_to_left ps s = λ k d low high.
    let long : length (map turn ps) ≡ length ps = length-map ps turn in
    let next : get_or (map turn ps) (k + 1) d ≡ turn (get_or ps (k + 1) (turn d)) = get_or-map turn ps (k + 1) (turn d) d (omega (arith, long)) in
    let this : get_or (map turn ps) k d ≡ turn (get_or ps k (turn d)) = get_or-map turn ps k (turn d) d (omega (arith, long)) in
    (λ t. is_lt (left_first (next t) (this t))) ∙ s k (turn d) low (omega (arith, long))

pub turned_to_right : (ps : List JoinPair) → IsSorted left_first ps → IsSorted right_first (map turn ps)
turned_to_right ps s = λ k d low high.
    let long : length (map turn ps) ≡ length ps = length-map ps turn in
    let next : get_or (map turn ps) (k + 1) d ≡ turn (get_or ps (k + 1) (turn d)) = get_or-map turn ps (k + 1) (turn d) d (omega (arith, long)) in
    let this : get_or (map turn ps) k d ≡ turn (get_or ps k (turn d)) = get_or-map turn ps k (turn d) d (omega (arith, long)) in
    (λ t. is_lt (right_first (next t) (this t))) ∙ s k (turn d) low (omega (arith, long))

-- left rows alone tie by their right rows
pub left_alone-sorted_right : (p : ℕ → Bool) (l : ℕ) → IsSorted right_first (map left_only (filter p (row_numbers l)))
left_alone-sorted_right p l = sorted_from-Ascends_by right_first (map left_only (filter p (row_numbers l))) (Ascends_by-map (NotBelow right_first) ◌<◌ left_only (λ i j h. ap is_lt (nat_cmp_above i j h)) (filter p (row_numbers l)) (kept_ascend p 0 l))
