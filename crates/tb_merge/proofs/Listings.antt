-- Pairs of left rows, one row more at a time.
use Rattle.std.proofs.Common.{◌≡◌, ℕ, zero, suc, ◌+◌, ◌-◌, ◌<◌, ◌≤◌, Bool, List, [], ◌∷◌, ◌++◌, length, map, take, refl, sym, ap, ◌∙◌, arith, append-nil}
use Rattle.std.specs.List.{flat_map, range_with_len}
use Rattle.std.proofs.lemmas.List.{append_assoc, map-id}
use Rattle.std.proofs.lemmas.List.Concat.{flat_map-append}
use Rattle.std.proofs.lemmas.List.Folds.{length-flat_map-take}
use Rattle.std.proofs.lemmas.List.FromFn.{map-range_with_len_more, length-range_with_len, length-map-range_with_len, get_or-range_with_len, take-map-range_with_len}
use Rattle.tb_value.specs.declared.index.JoinPair.{JoinPair}
use Rattle.tb_value.specs.Promise.Pairs.{both, row_numbers}
use Rattle.tb_value.proofs.RowNumbers.{range_more}
use Rattle.tb_merge.specs.RowPairs.{row_pairs}

-- ONE ROW

-- pairs of the right rows so far, and of one more
pub pushed : (f : ℕ → JoinPair) (start k : ℕ) (old items new : List JoinPair) → start ≤ k
    → items ≡ old ++ map f (range_with_len start (k - start)) → new ≡ items ++ f k ∷ []
    → new ≡ old ++ map f (range_with_len start (k + 1 - start))
pushed f start k old items new le so_far step =
    let count : k + 1 - start ≡ (k - start) + 1 = omega arith in
    let here : start + (k - start) ≡ k = omega arith in
    let more : map f (range_with_len start (k + 1 - start)) ≡ map f (range_with_len start (k - start)) ++ f k ∷ [] =
    ap (λ (n : ℕ). map f (range_with_len start n)) count ∙ map-range_with_len_more f start (k - start) k here in
    step ∙ ap (λ (l : List JoinPair). l ++ f k ∷ []) so_far
    ∙ append_assoc old (map f (range_with_len start (k - start))) (f k ∷ []) ∙ sym (ap (λ (l : List JoinPair). old ++ l) more)

pub row_met : (keep : Bool) (i a n : ℕ) → 0 < n → row_pairs keep i (range_with_len a n) ≡ map (both i) (range_with_len a n)
row_met keep i a zero h = absurd (omega arith)
row_met keep i a (suc n) h = refl

pub length-row_met : (keep : Bool) (i a n : ℕ) → 0 < n → length (row_pairs keep i (range_with_len a n)) ≡ n
length-row_met keep i a n h = ap (λ (l : List JoinPair). length l) (row_met keep i a n h) ∙ length-map-range_with_len (both i) a n

-- RANGES

take_range : (a n k : ℕ) → k ≤ n → take k (range_with_len a n) ≡ range_with_len a k
take_range a n k le =
    ap (take k) (sym (map-id (range_with_len a n))) ∙ take-map-range_with_len (λ (i : ℕ). i) a n k le
    ∙ map-id (range_with_len a k)

-- LISTS OF LISTS

module _ {X Y : Type 0} (f : X → List Y) where
  pub flat_more : (xs : List X) (x : X) → flat_map f (xs ++ x ∷ []) ≡ flat_map f xs ++ f x
  flat_more xs x = flat_map-append f xs (x ∷ []) ∙ ap (λ (l : List Y). flat_map f xs ++ l) (append-nil (f x))

  -- a list so far, one element more
  pub listed_more : (xs : List X) (x : X) (items new : List Y) → items ≡ flat_map f xs → new ≡ items ++ f x
      → new ≡ flat_map f (xs ++ x ∷ [])
  listed_more xs x items new so_far step = step ∙ ap (λ (l : List Y). l ++ f x) so_far ∙ sym (flat_more xs x)

-- the rows so far, and one more
pub rows_more : (row : ℕ) → row_numbers (row + 1) ≡ row_numbers row ++ row ∷ []
rows_more row =
    let here : 0 + row ≡ row = omega arith in
    range_more 0 row ∙ ap (λ (k : ℕ). row_numbers row ++ k ∷ []) here

-- the rows so far and one more have no more pairs than all rows
pub rows_within : (f : ℕ → List JoinPair) (row len : ℕ) → row < len
    → length (flat_map f (row_numbers row)) + length (f row) ≤ length (flat_map f (row_numbers len))
rows_within f row len low =
    let rows = row_numbers len in
    let count : row < length rows = omega (arith, length-range_with_len 0 len) in
    let fits = length-flat_map-take f rows row 0 count in
    let front = ap (λ (l : List ℕ). length (flat_map f l)) (take_range 0 len row (omega arith)) in
    let at : 0 + row ≡ row = omega arith in
    let here = ap (λ (i : ℕ). length (f i)) (get_or-range_with_len 0 len row 0 (omega arith) ∙ at) in
    omega (arith, fits, front, here)
