-- How often a left row stands in a listing, how long a listing is, and which tests list the same pairs.
use Rattle.std.proofs.Common.{◌≡◌, ◌++◌, ℕ, ◌+◌, ◌<◌, ◌≤◌, Bool, true, false, cond, eqb, List, length, map, refl, arith, ◌∙◌}
use Rattle.std.specs.Prelude.{sum_by, filter, not}
use Rattle.std.specs.List.{list_any}
use Rattle.std.proofs.lemmas.List.{length-map, length-append}
use Rattle.std.proofs.lemmas.List.Concat.{length-flat_map}
use Rattle.std.proofs.lemmas.List.Sums.{sum_by-append, length-filter}
use Rattle.tb_value.specs.declared.index.JoinPair.{JoinPair}
use Rattle.tb_frame.specs.declared.args.JoinType.{JoinType}
use Rattle.tb_frame.specs.declared.args.JoinType.TheVariants.{Inner, Left, Right, Full, Semi, Anti}
use Rattle.tb_value.specs.Promise.Pairs.{row_numbers}
use Rattle.tb_value.specs.Promise.Pairs.{both, left_only, matched_pairs, left_unmet}
use Rattle.tb_frame.specs.Promise.Join.{listing_of}
use Rattle.tb_value.specs.Pairs.{times, is_row}
use Rattle.tb_value.proofs.Ascending.{matched-same, left_met-same, left_unmet-same, right_unmet-same}
use Rattle.tb_value.proofs.Counts.{sum_by-map, sum_by-filter, sum_by-flat_map, sum_by-agree, sum_by-plus, sum_one, swap_conds, sum_by_test, counted_if_any, each_one}

abbrev here : ℕ → JoinPair → ℕ
here i pair = cond (is_row i pair.left) 1 0

-- of the rows that pass a test, each alone
pub times-alone : (p : ℕ → Bool) (l i : ℕ) → i < l → times i (map left_only (filter p (row_numbers l))) ≡ cond (p i) 1 0
times-alone p l i low =
    sum_by-map (here i) left_only (filter p (row_numbers l))
    ∙ sum_by-filter (λ k. cond (eqb i k) 1 0) p (row_numbers l)
    ∙ sum_by-agree (λ k. cond (p k) (cond (eqb i k) 1 0) 0) (λ k. cond (eqb i k) (cond (p k) 1 0) 0) (λ k. swap_conds (p k) (eqb i k) 1) (row_numbers l)
    ∙ sum_one (λ k. cond (p k) 1 0) i 0 l (omega arith) (omega arith)

-- with its matches
pub times-matched : (l r : ℕ) (m : ℕ → ℕ → Bool) (i : ℕ) → i < l → times i (matched_pairs l r m) ≡ length (filter (m i) (row_numbers r))
times-matched l r m i low =
    let pairs : ℕ → List JoinPair = λ k. map (both k) (filter (m k) (row_numbers r)) in
    sum_by-flat_map (here i) pairs (row_numbers l)
    ∙ sum_by-agree (λ k. sum_by (here i) (pairs k)) (λ k. cond (eqb i k) (length (filter (m k) (row_numbers r))) 0) (λ k. sum_by-map (here i) (both k) (filter (m k) (row_numbers r)) ∙ sum_by_test (eqb i k) (filter (m k) (row_numbers r))) (row_numbers l)
    ∙ sum_one (λ k. length (filter (m k) (row_numbers r))) i 0 l (omega arith) (omega arith)

-- a row and its negation are counted once together
pub one_of_two : (b : Bool) → cond b 1 0 + cond (not b) 1 0 ≡ 1
one_of_two true = refl
one_of_two false = refl

module _ (l r : ℕ) (m : ℕ → ℕ → Bool) where
  met : ℕ → Bool
  met k = list_any (m k) (row_numbers r)

  rank : ℕ → ℕ
  rank k = length (filter (m k) (row_numbers r)) + cond (not (list_any (m k) (row_numbers r))) 1 0

  times-left : (i : ℕ) → i < l → times i (listing_of Left l r m) ≡ rank i
  unfolding rank
  times-left i low =
      let split = sum_by-append (here i) (matched_pairs l r m) (left_unmet l r m) in
      let one = times-matched l r m i low in
      let two = times-alone (λ k. not (list_any (m k) (row_numbers r))) l i low in
      omega (arith, split, one, two)

  at_least : (k : ℕ) (b : Bool) → list_any (m k) (row_numbers r) ≡ b → 1 ≤ length (filter (m k) (row_numbers r)) + cond (not b) 1 0
  at_least k true e = let c = counted_if_any (m k) (row_numbers r) e in let n = length-filter (m k) (row_numbers r) in omega (arith, c, n)
  at_least k false e = omega arith

  rank_positive : (k : ℕ) → 1 ≤ rank k
  unfolding rank
  rank_positive k = at_least k (list_any (m k) (row_numbers r)) refl

  length-left : length (listing_of Left l r m) ≡ sum_by rank (row_numbers l)
  unfolding rank
  length-left =
      let pairs : ℕ → List JoinPair = λ k. map (both k) (filter (m k) (row_numbers r)) in
      let a = length-append (matched_pairs l r m) (left_unmet l r m) in
      let b = length-flat_map pairs (row_numbers l) in
      let c = sum_by-agree (λ k. length (pairs k)) (λ k. length (filter (m k) (row_numbers r))) (λ k. length-map (filter (m k) (row_numbers r)) (both k)) (row_numbers l) in
      let u : ℕ → Bool = λ k. not (list_any (m k) (row_numbers r)) in
      let d = length-map (filter u (row_numbers l)) left_only in
      let e = length-filter u (row_numbers l) in
      let f = sum_by-plus (λ k. length (filter (m k) (row_numbers r))) (λ k. cond (u k) 1 0) (row_numbers l) in
      omega (arith, a, b, c, d, e, f)

  pub kept_at : (i : ℕ) → i < l → (1 ≤ times i (listing_of Left l r m)) × (length (listing_of Left l r m) ≡ l → times i (listing_of Left l r m) ≡ 1)
  kept_at i low =
      let t = times-left i low in
      let p = rank_positive i in
      let long = length-left in
      (omega (arith, t, p), λ e. t ∙ each_one rank rank_positive l i low (omega (arith, long, e)))

-- tests that agree on the rows list the same pairs
pub listing-same : (how : JoinType) (l r : ℕ) (m n : ℕ → ℕ → Bool) → ((i j : ℕ) → i < l → j < r → m i j ≡ n i j) → listing_of how l r m ≡ listing_of how l r n
listing-same Inner l r m n h = matched-same l r m n h
listing-same Left l r m n h = λ t. matched-same l r m n h t ++ left_unmet-same l r m n h t
listing-same Right l r m n h = λ t. matched-same l r m n h t ++ right_unmet-same l r m n h t
listing-same Full l r m n h = λ t. matched-same l r m n h t ++ left_unmet-same l r m n h t ++ right_unmet-same l r m n h t
listing-same Semi l r m n h = left_met-same l r m n h
listing-same Anti l r m n h = left_unmet-same l r m n h
