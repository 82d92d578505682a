-- The pairs of the join, and that nothing refuses it.
use Rattle.std.proofs.Common.{◌≡◌, ◌∙◌, ◌==◌, ◌*◌, ◌%◌, ℕ, zero, suc, ◌+◌, ◌<◌, ◌≤◌, pos, Bool, true, false, List, length, map, get_or, refl, ap, sym, arith, eq-eqb}
use Rattle.std.specs.Prelude.{filter, sum_by, nat_lt, ◌&&◌}
use Rattle.std.specs.List.{range_with_len}
use Rattle.std.proofs.lemmas.Bool.{eqb-true, le-ltb}
use Rattle.std.proofs.lemmas.List.FromFn.{length-range_with_len, length-map-range_with_len, get_or-map-range_with_len}
use Rattle.std.proofs.lemmas.List.Sorted.{sum_by-IsPermutation}
use Rattle.std.proofs.lemmas.List.Sums.{sum_by-cons}
use Rattle.tb_value.specs.Promise.Datum.{int, null}
use Rattle.tb_value.specs.Promise.Pairs.{row_numbers, both, matched_pairs}
use Rattle.tb_value.specs.Pairs.{turn}
use Rattle.tb_value.specs.Proved.ValueTests.{same-Decides}
use Rattle.tb_value.specs.Promise.Same.{same, agrees}
use Rattle.tb_value.specs.declared.index.JoinPair.{JoinPair}
use Rattle.tb_value.specs.declared.limits.TheConstants.{MAX_ROWS}
use Rattle.tb_value.specs.declared.error.ComputeCause.TheVariants.{TooManyRows}
use Rattle.tb_value.specs.declared.error.PolarsError.TheVariants.{ComputeError}
use Rattle.tb_value.specs.Promise.Refusals.{when}
use Rattle.tb_value.proofs.Ascending.{matched-same}
use Rattle.tb_value.proofs.Counts.{sum_by-filter, sum_by-flat_map, sum_by-map, sum_by_ones, sum_one}
use Rattle.tb_value.proofs.Loops.{turned_matches}
use Rattle.tb_frame.specs.Promise.Join.{listing, matches}
use Rattle.tb_frame.specs.Promise.Refusal.{join_valid, too_many_rows}
use Rattle.tb_frame.specs.Promise.Table.{height}
use Rattle.tb_frame.proofs.Causes.{first_cause-one}
use Rattle.tb_sample.specs.Promise.Sample.{left_table, right_table, request}

-- SUMS OVER PAIRS

sum_by-rows : (f g : ℕ → ℕ) (a n : ℕ) → ((k : ℕ) → a ≤ k → k < a + n → f k ≡ g k) → sum_by f (range_with_len a n) ≡ sum_by g (range_with_len a n)
sum_by-rows f g a zero h = refl
sum_by-rows f g a (suc n) h =
    let here = h a (omega arith) (omega arith) in
    let rest = sum_by-rows f g (a + 1) n (λ k low high. h k (omega arith) (omega arith)) in
    let one = sum_by-cons f a (range_with_len (a + 1) n) in
    let other = sum_by-cons g a (range_with_len (a + 1) n) in
    one ∙ omega (arith, here, rest) ∙ sym other

-- numbers that agree on the rows have one sum
pub same_sum : (f g : ℕ → ℕ) (n : ℕ) → ((k : ℕ) → k < n → f k ≡ g k) → sum_by f (row_numbers n) ≡ sum_by g (row_numbers n)
same_sum f g n h = sum_by-rows f g 0 n (λ k low high. h k (omega arith))

-- where each right row matches one left row alone, a sum over the pairs is one over the right rows
module _ (l r : ℕ) (partner : ℕ → ℕ) (below : (j : ℕ) → j < r → partner j < l) (h : JoinPair → ℕ) where
  pub sum_pairs : sum_by h (matched_pairs l r (λ i j. partner j == i)) ≡ sum_by (λ j. h (both (partner j) j)) (row_numbers r)
  sum_pairs =
      let lefts : ℕ → List JoinPair = λ j. map (both j) (filter (λ i. partner j == i) (row_numbers l)) in
      let one : (j : ℕ) → j < r → sum_by (λ p. h (turn p)) (lefts j) ≡ h (both (partner j) j) = λ j low.
      sum_by-map (λ p. h (turn p)) (both j) (filter (λ i. partner j == i) (row_numbers l))
      ∙ sum_by-filter (λ i. h (both i j)) (λ i. partner j == i) (row_numbers l)
      ∙ sum_one (λ i. h (both i j)) (partner j) 0 l (omega arith) (omega (arith, below j low))
      in
      sum_by-IsPermutation h (map turn (matched_pairs r l (λ j i. partner j == i))) (matched_pairs l r (λ i j. partner j == i)) (turned_matches l r (λ i j. partner j == i))
      ∙ sum_by-map h turn (matched_pairs r l (λ j i. partner j == i))
      ∙ sum_by-flat_map (λ p. h (turn p)) lefts (row_numbers r)
      ∙ same_sum (λ j. sum_by (λ p. h (turn p)) (lefts j)) (λ j. h (both (partner j) j)) r one

-- KEYS

and_true : (b : Bool) → (b && true) ≡ b
and_true true = refl
and_true false = refl

-- keys are present, and match where they are equal
numbers_agree : (a b : ℕ) → agrees false (int (pos a)) (int (pos b)) ≡ (b == a)
numbers_agree a b = by (same (int (pos a)) (int (pos b))) refl (b == a) refl
  where
    one_number : int (pos a) ≡ int (pos b) → a ≡ b
    one_number e = cc

    by : (s : Bool) → same (int (pos a)) (int (pos b)) ≡ s → (t : Bool) → (b == a) ≡ t → agrees false (int (pos a)) (int (pos b)) ≡ t
    by true e true h = rw e refl
    by false e false h = rw e refl
    by true e false h = absurd (let back = eq-eqb b a (sym (one_number ((same-Decides (int (pos a)) (int (pos b))).0 e))) in cc)
    by false e true h = absurd (let back = (same-Decides (int (pos a)) (int (pos b))).1 (ap (λ k. int (pos k)) (sym (eqb-true b a h))) in cc)

module _ (n : ℕ) where
  key : ℕ → ℕ
  key j = (7 * j) % n

  rows_match : (i j : ℕ) → i < n → j < n → matches (request n) i j ≡ (key j == i)
  unfolding request key
  rows_match i j low high =
      let left : get_or (map (λ k. int (pos k)) (row_numbers n)) i null ≡ int (pos i) = get_or-map-range_with_len (λ k. int (pos k)) 0 n i i null low (omega arith) in
      let right : get_or (map (λ k. int (pos ((7 * k) % n))) (row_numbers n)) j null ≡ int (pos ((7 * j) % n)) = get_or-map-range_with_len (λ k. int (pos ((7 * k) % n))) 0 n j j null high (omega arith) in
      (λ t. agrees false (left t) (right t) && true)
      ∙ and_true (agrees false (int (pos i)) (int (pos ((7 * j) % n))))
      ∙ numbers_agree i ((7 * j) % n)

  left_high : height (left_table n) ≡ n
  left_high = length-map-range_with_len (λ k. int (pos k)) 0 n

  right_high : height (right_table n) ≡ n
  right_high = length-map-range_with_len (λ j. int (pos ((7 * j) % n))) 0 n

  below : (j : ℕ) → j < height (right_table n) → key j < height (left_table n)
  unfolding key
  below j low = omega (arith, left_high, right_high)

  -- the pairs that are listed
  listing_is : listing (request n) ≡ matched_pairs (height (left_table n)) (height (right_table n)) (λ i j. key j == i)
  unfolding request key
  listing_is =
      matched-same (height (left_table n)) (height (right_table n)) (matches (request n)) (λ i j. key j == i) (λ i j low high. rows_match i j (omega (arith, left_high)) (omega (arith, right_high)))

  -- a sum over them is one over the right rows, each with its left row
  pub sum_of_pairs : (h : JoinPair → ℕ) → sum_by h (listing (request n)) ≡ sum_by (λ j. h (both ((7 * j) % n) j)) (row_numbers n)
  unfolding key
  sum_of_pairs h =
      ap (sum_by h) listing_is
      ∙ sum_pairs (height (left_table n)) (height (right_table n)) key below h
      ∙ ap (λ (r : ℕ). sum_by (λ j. h (both ((7 * j) % n) j)) (row_numbers r)) right_high

  pub pairs_count : length (listing (request n)) ≡ n
  pairs_count = sym (sum_by_ones (listing (request n))) ∙ sum_of_pairs (λ _. 1) ∙ sum_by_ones (row_numbers n) ∙ length-range_with_len 0 n

  pub valid : n ≤ MAX_ROWS → join_valid (request n)
  unfolding request
  valid few =
      let small : nat_lt MAX_ROWS (length (listing (request n))) ≡ false = le-ltb MAX_ROWS (length (listing (request n))) (omega (arith, pairs_count, few)) in
      first_cause-one (too_many_rows (request n)) ∙ ap (λ (b : Bool). when b (ComputeError TooManyRows)) small
