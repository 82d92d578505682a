-- The numbers of a summary, whichever answer it is of.
use Rattle.std.proofs.Common.{◌≡◌, ◌∙◌, ◌*◌, ◌%◌, ◌<◌, ◌≤◌, ℕ, pos, List, [], ◌∷◌, length, map, Option, Some, None, refl, ap, sym, arith}
use Rattle.std.specs.Prelude.{codes, sum_by}
use Rattle.std.proofs.lemmas.Int.{ints}
use Rattle.std.proofs.lemmas.List.{length-map}
use Rattle.std.proofs.lemmas.List.Elements.{All-map}
use Rattle.std.proofs.lemmas.List.FromFn.{get_or-map-range_with_len}
use Rattle.std.proofs.lemmas.List.Sorted.{length_permutation, sum_by-IsPermutation}
use Rattle.std.proofs.lemmas.List.Sums.{sum_by-cons}
use Rattle.tb_value.specs.Promise.Datum.{Datum, int, null}
use Rattle.tb_value.specs.Promise.Names.{Name}
use Rattle.tb_value.specs.Promise.Pairs.{row_numbers, both}
use Rattle.tb_value.specs.declared.index.JoinPair.{JoinPair}
use Rattle.tb_value.specs.declared.limits.TheConstants.{MAX_ROWS}
use Rattle.tb_value.proofs.Loops.{map-map}
use Rattle.tb_agg.specs.Promise.Aggregates.{number, total}
use Rattle.tb_frame.specs.Answer.{fill}
use Rattle.tb_frame.specs.Promise.Join.{IsAnswer, out, value_at, listing}
use Rattle.tb_frame.specs.Promise.Table.{TableColumn, Table, height}
use Rattle.tb_frame.proofs.AnswerLemmas.{rows-fill, table-fill}
use Rattle.tb_frame.proofs.Outs.{names_distinct, outs_typed, schema-out}
use Rattle.tb_frame.proofs.Tables.{same_table}
use Rattle.tb_frame.proofs.Taking.{at_place}
use Rattle.tb_frame.proofs.Validity.{names_apart, some_out}
use Rattle.tb_sample.specs.declared.summary.Summary.{Summary}
use Rattle.tb_sample.specs.Promise.Sample.{IsSummary, numbers, request, sum_of}
use Rattle.tb_sample.proofs.Answered.{left_is, right_is}
use Rattle.tb_sample.proofs.Pairs.{pairs_count, same_sum, sum_of_pairs, valid}
use Rattle.tb_sample.proofs.Totals.{total-append}

-- NUMBERS THAT ARE NOT NEGATIVE

abbrev amount : Datum → ℕ
amount (int (pos k)) = k
amount _ = 0

abbrev Counts : Datum → Type 0
Counts v = number v ≡ pos (amount v)

total_is : {X : Type 0} (f : X → Datum) → ((x : X) → Counts (f x)) → (xs : List X) → total (map f xs) ≡ pos (sum_by (λ x. amount (f x)) xs)
total_is f h [] = refl
total_is f h (x ∷ xs) =
    let both = total-append (f x ∷ []) (map f xs) in
    let rest = total_is f h xs in
    let here = h x in
    let sum = sum_by-cons (λ y. amount (f y)) x xs in
    omega (arith, ints)

field_counts : (name : Name) (f : ℕ → ℕ) (n : ℕ) (row : Option ℕ) → Counts (value_at (numbers name f n) row)
field_counts name f n None = refl
field_counts name f n (Some i) = at_place Counts (map (λ k. int (pos (f k))) (row_numbers n)) i refl (All-map Counts (λ k. int (pos (f k))) (row_numbers n) (λ k d low. refl))

amount_at : (name : Name) (f : ℕ → ℕ) (n i : ℕ) → i < n → amount (value_at (numbers name f n) (Some i)) ≡ f i
amount_at name f n i low = ap amount (get_or-map-range_with_len (λ k. int (pos (f k))) 0 n i i null low (omega arith))

-- THE SUMMARY

module _ (n : ℕ) (few : n ≤ MAX_ROWS) (t : Table) (a : IsAnswer (request n) t) where
  -- the answer has the values of its pairs
  filled : t ≡ map (fill a.pairs) (out (request n))
  unfolding request
  filled =
      let q = request n in
      let table = table-fill a.pairs (out q) (names_distinct q (names_apart q (valid n few))) (outs_typed q (left_is n few).typed (right_is n few).typed (λ i d low k e. absurd (cc))) in
      let columns = map-map (λ (c : TableColumn). (c.name, c.kind)) (fill a.pairs) (out q) ∙ schema-out q in
      same_table t (map (fill a.pairs) (out q)) a.table table (a.columns ∙ sym columns) (a.rows ∙ sym (rows-fill a.pairs (out q) (some_out q (valid n few))))

  over_pairs : (h : JoinPair → ℕ) → sum_by h a.pairs ≡ sum_by (λ j. h (both ((7 * j) % n) j)) (row_numbers n)
  over_pairs h = sum_by-IsPermutation h (listing (request n)) a.pairs a.ordered.permutation ∙ sum_of_pairs n h

  height_is : height t ≡ n
  unfolding request
  height_is =
      let long = ap height filled in
      let same = length_permutation (listing (request n)) a.pairs a.ordered.permutation in
      let all = pairs_count n in
      let of_pairs : height (map (fill a.pairs) (out (request n))) ≡ length a.pairs = length-map a.pairs (λ p. value_at (numbers (codes "key") (λ i. i) n) p.left) in
      long ∙ of_pairs ∙ same ∙ all

  keys_are : sum_of (codes "key") t ≡ pos (sum_by (λ j. (7 * j) % n) (row_numbers n))
  unfolding request
  keys_are =
      let field : JoinPair → Datum = λ p. value_at (numbers (codes "key") (λ i. i) n) p.left in
      ap (sum_of (codes "key")) filled
      ∙ total_is field (λ p. field_counts (codes "key") (λ i. i) n p.left) a.pairs
      ∙ ap pos (over_pairs (λ p. amount (field p)) ∙ same_sum (λ j. amount (field (both ((7 * j) % n) j))) (λ j. (7 * j) % n) n (λ j low. amount_at (codes "key") (λ i. i) n ((7 * j) % n) (omega arith)))

  w_is : sum_of (codes "w") t ≡ pos (sum_by (λ j. j) (row_numbers n))
  unfolding request
  w_is =
      let field : JoinPair → Datum = λ p. value_at (numbers (codes "w") (λ j. j) n) p.right in
      ap (sum_of (codes "w")) filled
      ∙ total_is field (λ p. field_counts (codes "w") (λ j. j) n p.right) a.pairs
      ∙ ap pos (over_pairs (λ p. amount (field p)) ∙ same_sum (λ j. amount (field (both ((7 * j) % n) j))) (λ j. j) n (λ j low. amount_at (codes "w") (λ j. j) n j low))

pub one_summary : (n : ℕ) (s : Summary) → n ≤ MAX_ROWS → IsSummary n s → s ≡ record { height = n; key_sum = pos (sum_by (λ j. (7 * j) % n) (row_numbers n)); w_sum = pos (sum_by (λ j. j) (row_numbers n)) }
unfolding IsSummary
one_summary n s few is = is.2 ∙ (λ t. record { height = height_is n few is.0 is.1 t; key_sum = keys_are n few is.0 is.1 t; w_sum = w_is n few is.0 is.1 t })
