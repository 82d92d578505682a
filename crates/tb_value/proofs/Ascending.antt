-- The pairs of two loops, and of one, ascend as they are listed.
use Rattle.std.proofs.Common.{◌≡◌, ℕ, zero, suc, ◌+◌, ◌<◌, ◌≤◌, Bool, true, false, cond, not, ◌||◌, List, [], ◌∷◌, ◌++◌, length, get_or, map, refl, ap, arith, sym, ◌∙◌, subst}
use Rattle.std.specs.Prelude.{filter, IsSorted, All, AllPairs}
use Rattle.std.proofs.lemmas.List.Kept.{AllPairs-cons}
use Rattle.std.specs.List.{flat_map, list_any, range_with_len}
use Rattle.std.specs.declared.cmp.Ordering.{Ordering}
use Rattle.std.specs.declared.cmp.Ordering.TheVariants.{Less, Equal, Greater}
use Rattle.std.specs.Ordering.{is_lt, nat_cmp, ordering_then}
use Rattle.std.proofs.lemmas.Cmp.{ranked}
use Rattle.std.proofs.lemmas.List.Elements.{All-nil, All-cons, All-head, All-tail, All-append, All-map, All-weaker}
use Rattle.tb_value.specs.declared.index.JoinPair.{JoinPair}
use Rattle.tb_value.specs.Promise.Pairs.{row_numbers, both, left_only, right_only, matched_pairs, left_met, left_unmet, right_unmet, left_first}

-- each element stands before the later ones
abbrev pub Ascends_by : {X : Type 0} → (X → X → Type 0) → List X → Type 0
Ascends_by R [] = Unit {0}
Ascends_by R (x ∷ xs) = All (R x) xs × Ascends_by R xs

module _ {X : Type 0} (R : X → X → Type 0) where
  pub Ascends_by-append : (xs ys : List X) → Ascends_by R xs → Ascends_by R ys → All (λ x. All (R x) ys) xs → Ascends_by R (xs ++ ys)
  Ascends_by-append [] ys a b h = b
  Ascends_by-append (x ∷ xs) ys a b h = (All-append (R x) xs ys a.0 (All-head (λ x. All (R x) ys) x xs h), Ascends_by-append xs ys a.1 b (All-tail (λ x. All (R x) ys) x xs h))

pub Ascends_by-map : {X Y : Type 0} (R : X → X → Type 0) (S : Y → Y → Type 0) (f : Y → X) → ((a b : Y) → S a b → R (f a) (f b)) → (ys : List Y) → Ascends_by S ys → Ascends_by R (map f ys)
Ascends_by-map R S f h [] a = tt
Ascends_by-map R S f h (y ∷ ys) a = (All-map (R (f y)) f ys (All-weaker (S y) (λ b. R (f y) (f b)) (h y) ys a.0), Ascends_by-map R S f h ys a.1)

-- the pairs of places say the same
pub Ascends_by-from_pairs : {X : Type 0} (R : X → X → Type 0) (xs : List X) → AllPairs R xs → Ascends_by R xs
Ascends_by-from_pairs R [] h = tt
Ascends_by-from_pairs R (x ∷ xs) h = (λ k d low. h 0 (suc k) d (omega arith) (omega arith), Ascends_by-from_pairs R xs (λ i j d low high. h (suc i) (suc j) d (omega arith) (omega arith)))

pub pairs_from-Ascends_by : {X : Type 0} (R : X → X → Type 0) (xs : List X) → Ascends_by R xs → AllPairs R xs
pairs_from-Ascends_by R [] a = λ i j d low high. absurd (omega arith)
pairs_from-Ascends_by R (x ∷ xs) a = AllPairs-cons R x xs a.0 (pairs_from-Ascends_by R xs a.1)

module _ {X Y : Type 0} (R : X → X → Type 0) (h : Y → X) (p : Y → Bool) where
  All-thinned : (P : X → Type 0) (ys : List Y) → All P (map h ys) → All P (map h (filter p ys))
  All-thinned P [] a = All-nil P
  All-thinned P (y ∷ ys) a = at (p y) (All-thinned P ys (All-tail P (h y) (map h ys) a))
    where
      at : (b : Bool) → All P (map h (filter p ys)) → All P (map h (cond b (y ∷ filter p ys) (filter p ys)))
      at true rest = All-cons P (h y) (map h (filter p ys)) (All-head P (h y) (map h ys) a) rest
      at false rest = rest

  Ascends_by-thinned : (ys : List Y) → Ascends_by R (map h ys) → Ascends_by R (map h (filter p ys))
  Ascends_by-thinned [] a = tt
  Ascends_by-thinned (y ∷ ys) a = at (p y) (Ascends_by-thinned ys a.1)
    where
      at : (b : Bool) → Ascends_by R (map h (filter p ys)) → Ascends_by R (map h (cond b (y ∷ filter p ys) (filter p ys)))
      at true rest = (All-thinned (R (h y)) ys a.0, rest)
      at false rest = rest

  after_thinned : (us : List X) (ys : List Y) → Ascends_by R (us ++ map h ys) → Ascends_by R (us ++ map h (filter p ys))
  after_thinned [] ys a = Ascends_by-thinned ys a
  after_thinned (u ∷ us) ys a = (below us a.0, after_thinned us ys a.1)
    where
      below : (vs : List X) → All (R u) (vs ++ map h ys) → All (R u) (vs ++ map h (filter p ys))
      below [] b = All-thinned (R u) ys b
      below (v ∷ vs) b = All-cons (R u) v (vs ++ map h (filter p ys)) (All-head (R u) v (vs ++ map h ys) b) (below vs (All-tail (R u) v (vs ++ map h ys) b))

  -- what holds of all pairs of a list holds where some of its last elements are left out
  pub AllPairs-thinned : (us : List X) (ys : List Y) → AllPairs R (us ++ map h ys) → AllPairs R (us ++ map h (filter p ys))
  AllPairs-thinned us ys a = pairs_from-Ascends_by R (us ++ map h (filter p ys)) (after_thinned us ys (Ascends_by-from_pairs R (us ++ map h ys) a))

-- not below an earlier one
abbrev pub NotBelow : {X : Type 0} → (X → X → Ordering) → X → X → Type 0
NotBelow cmp x y = is_lt (cmp y x) ≡ false

pub sorted_from-Ascends_by : {X : Type 0} (cmp : X → X → Ordering) (xs : List X) → Ascends_by (NotBelow cmp) xs → IsSorted cmp xs
sorted_from-Ascends_by cmp [] a = λ k d low high. absurd (omega arith)
sorted_from-Ascends_by {X} cmp (x ∷ xs) a = at (sorted_from-Ascends_by cmp xs a.1)
  where
    at : IsSorted cmp xs → (k : ℕ) (d : X) → 0 ≤ k → k + 1 < length (x ∷ xs) → is_lt (cmp (get_or (x ∷ xs) (k + 1) d) (get_or (x ∷ xs) k d)) ≡ false
    at rest zero d low high = a.0 0 d (omega arith)
    at rest (suc k) d low high =
        let e : suc k + 1 ≡ suc (k + 1) = omega arith in
        subst (λ (n : ℕ). is_lt (cmp (get_or (x ∷ xs) n d) (get_or (x ∷ xs) (suc k) d)) ≡ false) (sym e) (rest k d (omega arith) (omega arith))

-- ROW NUMBERS THAT PASS A TEST

module _ (p : ℕ → Bool) where
  kept_case : (P : ℕ → Type 0) (b : Bool) (n : ℕ) (us : List ℕ) → P n → All P us → All P (cond b (n ∷ us) us)
  kept_case P true n us h a = All-cons P n us h a
  kept_case P false n us h a = a

  pub kept_from : (m a n : ℕ) → m ≤ a → All (λ k. m ≤ k) (filter p (range_with_len a n))
  kept_from m a zero h = All-nil (λ k. m ≤ k)
  kept_from m a (suc n) h = kept_case (λ k. m ≤ k) (p a) a (filter p (range_with_len (a + 1) n)) h (kept_from m (a + 1) n (omega arith))

  ascends_case : (b : Bool) (n : ℕ) (us : List ℕ) → All (λ k. n + 1 ≤ k) us → Ascends_by ◌<◌ us → Ascends_by ◌<◌ (cond b (n ∷ us) us)
  ascends_case true n us h a = (All-weaker (λ k. n + 1 ≤ k) (λ k. n < k) (λ k l. omega arith) us h, a)
  ascends_case false n us h a = a

  pub kept_ascend : (a n : ℕ) → Ascends_by ◌<◌ (filter p (range_with_len a n))
  kept_ascend a zero = tt
  kept_ascend a (suc n) = ascends_case (p a) a (filter p (range_with_len (a + 1) n)) (kept_from (a + 1) (a + 1) n (omega arith)) (kept_ascend (a + 1) n)

-- ORDERS

cmp_above : (i j : ℕ) → i < j → (o : Ordering) → o ≡ nat_cmp j i → nat_cmp j i ≡ Greater
cmp_above i j h Less e = let r : j < i = ranked j i Less e in absurd (omega arith)
cmp_above i j h Equal e = let r : j ≡ i = ranked j i Equal e in absurd (omega arith)
cmp_above i j h Greater e = sym e

-- a greater number comes after
pub nat_cmp_above : (i j : ℕ) → i < j → nat_cmp j i ≡ Greater
nat_cmp_above i j h = cmp_above i j h (nat_cmp j i) refl

cmp_self : (i : ℕ) (o : Ordering) → o ≡ nat_cmp i i → nat_cmp i i ≡ Equal
cmp_self i Less e = let r : i < i = ranked i i Less e in absurd (omega arith)
cmp_self i Equal e = sym e
cmp_self i Greater e = let r : i < i = ranked i i Greater e in absurd (omega arith)

pub nat_cmp_self : (i : ℕ) → nat_cmp i i ≡ Equal
nat_cmp_self i = cmp_self i (nat_cmp i i) refl

later_left : (i j u v : ℕ) → i < j → NotBelow left_first (both i u) (both j v)
later_left i j u v h = ap (λ (o : Ordering). is_lt (ordering_then o (nat_cmp v u))) (nat_cmp_above i j h)

pub later_right : (i u v : ℕ) → u < v → NotBelow left_first (both i u) (both i v)
later_right i u v h = ap (λ (o : Ordering). is_lt (ordering_then o (nat_cmp v u))) (nat_cmp_self i) ∙ ap is_lt (nat_cmp_above u v h)

later_alone : (i j : ℕ) → i < j → NotBelow left_first (left_only i) (left_only j)
later_alone i j h = ap (λ (o : Ordering). is_lt (ordering_then o Equal)) (nat_cmp_above i j h)

-- ONE LOOP

-- left rows alone, in the order of their numbers
pub left_alone-sorted : (p : ℕ → Bool) (l : ℕ) → IsSorted left_first (map left_only (filter p (row_numbers l)))
left_alone-sorted p l = sorted_from-Ascends_by left_first (map left_only (filter p (row_numbers l))) (Ascends_by-map (NotBelow left_first) ◌<◌ left_only later_alone (filter p (row_numbers l)) (kept_ascend p 0 l))

pub left_met-sorted : (l r : ℕ) (m : ℕ → ℕ → Bool) → IsSorted left_first (left_met l r m)
left_met-sorted l r m = left_alone-sorted (λ i. list_any (m i) (row_numbers r)) l

pub left_unmet-sorted : (l r : ℕ) (m : ℕ → ℕ → Bool) → IsSorted left_first (left_unmet l r m)
left_unmet-sorted l r m = left_alone-sorted (λ i. not (list_any (m i) (row_numbers r))) l

-- TWO LOOPS

pub All-flat_map : {X : Type 0} (P : X → Type 0) (f : ℕ → List X) (b a n : ℕ) → b ≤ a → ((j : ℕ) → b ≤ j → All P (f j)) → All P (flat_map f (range_with_len a n))
All-flat_map P f b a zero low h = All-nil P
All-flat_map P f b a (suc n) low h = All-append P (f a) (flat_map f (range_with_len (a + 1) n)) (h a low) (All-flat_map P f b (a + 1) n (omega arith) h)

module _ (l r : ℕ) (m : ℕ → ℕ → Bool) where
  row : ℕ → List ℕ
  row i = filter (m i) (row_numbers r)

  All-any : {X : Type 0} (P : X → Type 0) → ((x : X) → P x) → (xs : List X) → All P xs
  All-any P h xs = λ k d low. h (get_or xs k d)

  below_later : (i u a n : ℕ) → i < a → All (NotBelow left_first (both i u)) (flat_map (λ j. map (both j) (filter (m j) (row_numbers r))) (range_with_len a n))
  below_later i u a n low =
      All-flat_map (NotBelow left_first (both i u)) (λ j. map (both j) (filter (m j) (row_numbers r))) a a n (omega arith) (λ j le.
      All-map (NotBelow left_first (both i u)) (both j) (filter (m j) (row_numbers r)) (All-any (λ v. NotBelow left_first (both i u) (both j v)) (λ v. later_left i j u v (omega arith)) (filter (m j) (row_numbers r))))

  rows_ascend : (a n : ℕ) → Ascends_by (NotBelow left_first) (flat_map (λ i. map (both i) (filter (m i) (row_numbers r))) (range_with_len a n))
  rows_ascend a zero = tt
  rows_ascend a (suc n) =
      let rest : List JoinPair = flat_map (λ i. map (both i) (filter (m i) (row_numbers r))) (range_with_len (a + 1) n) in
      Ascends_by-append (NotBelow left_first) (map (both a) (filter (m a) (row_numbers r))) rest
      (Ascends_by-map (NotBelow left_first) ◌<◌ (both a) (later_right a) (filter (m a) (row_numbers r)) (kept_ascend (m a) 0 r))
      (rows_ascend (a + 1) n)
      (All-map (λ p. All (NotBelow left_first p) rest) (both a) (filter (m a) (row_numbers r)) (All-any (λ u. All (NotBelow left_first (both a u)) rest) (λ u. below_later a u (a + 1) n (omega arith)) (filter (m a) (row_numbers r))))

  -- the matched_pairs pairs ascend by (left, right)
  pub matched-sorted : IsSorted left_first (matched_pairs l r m)
  matched-sorted = sorted_from-Ascends_by left_first (matched_pairs l r m) (rows_ascend 0 l)

-- SAME TESTS, SAME PAIRS

filter_same : (p q : ℕ → Bool) (a n : ℕ) → ((k : ℕ) → a ≤ k → k < a + n → p k ≡ q k) → filter p (range_with_len a n) ≡ filter q (range_with_len a n)
filter_same p q a zero h = refl
filter_same p q a (suc n) h = λ t. cond (h a (omega arith) (omega arith) t) (a ∷ filter_same p q (a + 1) n (λ k low high. h k (omega arith) (omega arith)) t) (filter_same p q (a + 1) n (λ k low high. h k (omega arith) (omega arith)) t)

flat_map_same : {X : Type 0} (f g : ℕ → List X) (a n : ℕ) → ((k : ℕ) → a ≤ k → k < a + n → f k ≡ g k) → flat_map f (range_with_len a n) ≡ flat_map g (range_with_len a n)
flat_map_same f g a zero h = refl
flat_map_same f g a (suc n) h = λ t. h a (omega arith) (omega arith) t ++ flat_map_same f g (a + 1) n (λ k low high. h k (omega arith) (omega arith)) t

-- two tests that agree on the row numbers keep the same ones
pub kept_same : (p q : ℕ → Bool) (n : ℕ) → ((k : ℕ) → k < n → p k ≡ q k) → filter p (row_numbers n) ≡ filter q (row_numbers n)
kept_same p q n h = filter_same p q 0 n (λ k low high. h k (omega arith))

pub matched-same : (l r : ℕ) (m n : ℕ → ℕ → Bool) → ((i j : ℕ) → i < l → j < r → m i j ≡ n i j) → matched_pairs l r m ≡ matched_pairs l r n
matched-same l r m n h =
    flat_map_same (λ i. map (both i) (filter (m i) (row_numbers r))) (λ i. map (both i) (filter (n i) (row_numbers r))) 0 l (λ i low high. ap (map (both i)) (kept_same (m i) (n i) r (λ j in_r. h i j (omega arith) in_r)))

any_same : (p q : ℕ → Bool) (a n : ℕ) → ((k : ℕ) → a ≤ k → k < a + n → p k ≡ q k) → list_any p (range_with_len a n) ≡ list_any q (range_with_len a n)
any_same p q a zero h = refl
any_same p q a (suc n) h = λ t. h a (omega arith) (omega arith) t || any_same p q (a + 1) n (λ k low high. h k (omega arith) (omega arith)) t

module _ (l r : ℕ) (m n : ℕ → ℕ → Bool) (h : (i j : ℕ) → i < l → j < r → m i j ≡ n i j) where
  left_any : (i : ℕ) → i < l → list_any (m i) (row_numbers r) ≡ list_any (n i) (row_numbers r)
  left_any i low = any_same (m i) (n i) 0 r (λ j _ high. h i j low (omega arith))

  right_any : (j : ℕ) → j < r → list_any (λ i. m i j) (row_numbers l) ≡ list_any (λ i. n i j) (row_numbers l)
  right_any j low = any_same (λ i. m i j) (λ i. n i j) 0 l (λ i _ high. h i j (omega arith) low)

  pub left_met-same : left_met l r m ≡ left_met l r n
  left_met-same = ap (map left_only) (kept_same (λ i. list_any (m i) (row_numbers r)) (λ i. list_any (n i) (row_numbers r)) l left_any)

  pub left_unmet-same : left_unmet l r m ≡ left_unmet l r n
  left_unmet-same =
      ap (map left_only) (kept_same (λ i. not (list_any (m i) (row_numbers r))) (λ i. not (list_any (n i) (row_numbers r))) l (λ i low. ap not (left_any i low)))

  pub right_unmet-same : right_unmet l r m ≡ right_unmet l r n
  right_unmet-same =
      ap (map right_only) (kept_same (λ j. not (list_any (λ i. m i j) (row_numbers l))) (λ j. not (list_any (λ i. n i j) (row_numbers l))) r (λ j low. ap not (right_any j low)))
