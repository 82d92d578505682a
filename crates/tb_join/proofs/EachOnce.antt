-- No pair stands twice in a listing.
use Rattle.std.proofs.Common.{◌≡◌, ℕ, zero, suc, ◌+◌, ◌<◌, Bool, not, List, ◌++◌, map, get_or, refl, ap, ◌∙◌, arith, Some, None}
use Rattle.std.specs.Prelude.{All, AllPairs, ◌≢◌, filter}
use Rattle.std.specs.List.{flat_map, list_any, range_with_len}
use Rattle.std.proofs.lemmas.List.Elements.{All-append, All-map}
use Rattle.tb_value.specs.Promise.Pairs.{row_numbers, both, left_only, right_only, matched_pairs, left_unmet, right_unmet}
use Rattle.tb_value.specs.declared.index.JoinPair.{JoinPair}
use Rattle.tb_value.proofs.Ascending.{Ascends_by, Ascends_by-append, Ascends_by-map, All-flat_map, kept_ascend, pairs_from-Ascends_by}
use Rattle.tb_frame.specs.declared.args.JoinType.{JoinType}
use Rattle.tb_frame.specs.declared.args.JoinType.TheVariants.{Inner, Left, Right, Full, Semi, Anti}
use Rattle.tb_frame.specs.Promise.Join.{listing_of}

abbrev Differ : JoinPair → JoinPair → Type 0
Differ p q = p ≢ q

-- TWO PAIRS

one_number : (i j : ℕ) → Some i ≡ Some j → i ≡ j
one_number i j e = cc

other_left : (i j u v : ℕ) → i < j → Differ (both i u) (both j v)
other_left i j u v h e = let k = one_number i j (ap (λ (p : JoinPair). p.left) e) in absurd (omega (arith, h, k))

other_right : (i u v : ℕ) → u < v → Differ (both i u) (both i v)
other_right i u v h e = let k = one_number u v (ap (λ (p : JoinPair). p.right) e) in absurd (omega (arith, h, k))

other_alone : (i j : ℕ) → i < j → Differ (left_only i) (left_only j)
other_alone i j h e = let k = one_number i j (ap (λ (p : JoinPair). p.left) e) in absurd (omega (arith, h, k))

other_right_alone : (i j : ℕ) → i < j → Differ (right_only i) (right_only j)
other_right_alone i j h e = let k = one_number i j (ap (λ (p : JoinPair). p.right) e) in absurd (omega (arith, h, k))

-- ROWS OF BOTH SIDES, AND OF ONE

no_number : (i : ℕ) → Some i ≢ None
no_number i e = absurd (cc)

abbrev HasLeft : JoinPair → Type 0
HasLeft p = p.left ≢ None

abbrev HasRight : JoinPair → Type 0
HasRight p = p.right ≢ None

each : {X : Type 0} (P : X → Type 0) → ((x : X) → P x) → (xs : List X) → All P xs
each P h xs = λ k d low. h (get_or xs k d)

-- pairs that have what others lack are none of them
apart_by : (P Q : JoinPair → Type 0) → ((p q : JoinPair) → P p → Q q → Differ p q) → (ps qs : List JoinPair) → All P ps → All Q qs → All (λ p. All (Differ p) qs) ps
apart_by P Q h ps qs on_left on_right = λ k d low i e under. h (get_or ps k d) (get_or qs i e) (on_left k d low) (on_right i e under)

by_left : (p q : JoinPair) → HasLeft p → q.left ≡ None → Differ p q
by_left p q has lacks e = has (ap (λ (x : JoinPair). x.left) e ∙ lacks)

by_right : (p q : JoinPair) → HasRight p → q.right ≡ None → Differ p q
by_right p q has lacks e = has (ap (λ (x : JoinPair). x.right) e ∙ lacks)

module _ (l r : ℕ) (m : ℕ → ℕ → Bool) where
  abbrev row : ℕ → List JoinPair
  row i = map (both i) (filter (m i) (row_numbers r))

  later : (i u a n : ℕ) → i < a → All (Differ (both i u)) (flat_map row (range_with_len a n))
  later i u a n low = All-flat_map (Differ (both i u)) row a a n (omega arith) (λ j le. All-map (Differ (both i u)) (both j) (filter (m j) (row_numbers r)) (each (λ v. Differ (both i u) (both j v)) (λ v. other_left i j u v (omega arith)) (filter (m j) (row_numbers r))))

  rows : (a n : ℕ) → Ascends_by Differ (flat_map row (range_with_len a n))
  rows a zero = tt
  rows a (suc n) =
      let rest : List JoinPair = flat_map row (range_with_len (a + 1) n) in
      Ascends_by-append Differ (row a) rest
      (Ascends_by-map Differ ◌<◌ (both a) (other_right a) (filter (m a) (row_numbers r)) (kept_ascend (m a) 0 r))
      (rows (a + 1) n)
      (All-map (λ p. All (Differ p) rest) (both a) (filter (m a) (row_numbers r)) (each (λ u. All (Differ (both a u)) rest) (λ u. later a u (a + 1) n (omega arith)) (filter (m a) (row_numbers r))))

  alone : (p : ℕ → Bool) → Ascends_by Differ (map left_only (filter p (row_numbers l)))
  alone p = Ascends_by-map Differ ◌<◌ left_only other_alone (filter p (row_numbers l)) (kept_ascend p 0 l)

  right_alone : Ascends_by Differ (right_unmet l r m)
  right_alone = Ascends_by-map Differ ◌<◌ right_only other_right_alone (filter (λ j. not (list_any (λ i. m i j) (row_numbers l))) (row_numbers r)) (kept_ascend (λ j. not (list_any (λ i. m i j) (row_numbers l))) 0 r)

  matched_has : (P : JoinPair → Type 0) → ((i j : ℕ) → P (both i j)) → All P (matched_pairs l r m)
  matched_has P h = All-flat_map P row 0 0 l (omega arith) (λ i le. All-map P (both i) (filter (m i) (row_numbers r)) (each (λ j. P (both i j)) (h i) (filter (m i) (row_numbers r))))

  left_has : (P : JoinPair → Type 0) → ((i : ℕ) → P (left_only i)) → All P (left_unmet l r m)
  left_has P h = All-map P left_only (filter (λ i. not (list_any (m i) (row_numbers r))) (row_numbers l)) (each (λ i. P (left_only i)) h (filter (λ i. not (list_any (m i) (row_numbers r))) (row_numbers l)))

  right_has : (P : JoinPair → Type 0) → ((j : ℕ) → P (right_only j)) → All P (right_unmet l r m)
  right_has P h = All-map P right_only (filter (λ j. not (list_any (λ i. m i j) (row_numbers l))) (row_numbers r)) (each (λ j. P (right_only j)) h (filter (λ j. not (list_any (λ i. m i j) (row_numbers l))) (row_numbers r)))

  left_apart : All (λ p. All (Differ p) (left_unmet l r m)) (matched_pairs l r m)
  left_apart = apart_by HasRight (λ p. p.right ≡ None) by_right (matched_pairs l r m) (left_unmet l r m) (matched_has HasRight (λ i j. no_number j)) (left_has (λ p. p.right ≡ None) (λ i. refl))

  right_apart : All (λ p. All (Differ p) (right_unmet l r m)) (matched_pairs l r m)
  right_apart = apart_by HasLeft (λ p. p.left ≡ None) by_left (matched_pairs l r m) (right_unmet l r m) (matched_has HasLeft (λ i j. no_number i)) (right_has (λ p. p.left ≡ None) (λ j. refl))

  sides_apart : All (λ p. All (Differ p) (right_unmet l r m)) (left_unmet l r m)
  sides_apart = apart_by HasLeft (λ p. p.left ≡ None) by_left (left_unmet l r m) (right_unmet l r m) (left_has HasLeft (λ i. no_number i)) (right_has (λ p. p.left ≡ None) (λ j. refl))

  once : (how : JoinType) → Ascends_by Differ (listing_of how l r m)
  once Inner = rows 0 l
  once Left = Ascends_by-append Differ (matched_pairs l r m) (left_unmet l r m) (rows 0 l) (alone (λ i. not (list_any (m i) (row_numbers r)))) left_apart
  once Right = Ascends_by-append Differ (matched_pairs l r m) (right_unmet l r m) (rows 0 l) right_alone right_apart
  once Full =
      Ascends_by-append Differ (matched_pairs l r m ++ left_unmet l r m) (right_unmet l r m)
      (Ascends_by-append Differ (matched_pairs l r m) (left_unmet l r m) (rows 0 l) (alone (λ i. not (list_any (m i) (row_numbers r)))) left_apart)
      right_alone
      (All-append (λ p. All (Differ p) (right_unmet l r m)) (matched_pairs l r m) (left_unmet l r m) right_apart sides_apart)
  once Semi = alone (λ i. list_any (m i) (row_numbers r))
  once Anti = alone (λ i. not (list_any (m i) (row_numbers r)))

pub each_once : (how : JoinType) (l r : ℕ) (m : ℕ → ℕ → Bool) → AllPairs (λ (a b : JoinPair). a ≢ b) (listing_of how l r m)
each_once how l r m = pairs_from-Ascends_by Differ (listing_of how l r m) (once l r m how)
