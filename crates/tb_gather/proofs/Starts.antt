-- Where chunks start.
use Rattle.std.proofs.Common.{arith, ◌≡◌, ◌∙◌, ℕ, ◌<◌, ◌≤◌, ◌+◌, ◌-◌, suc, zero, inl, inr, ◌⊎◌, true, false, List, [], ◌∷◌, ◌++◌, length, get_or, take, ap, refl, length-append}
use Rattle.std.specs.Prelude.{nat_le}
use Rattle.std.specs.List.{sum}
use Rattle.std.specs.List.Sorted.{IsPartitionedBy, IsPartitionPoint}
use Rattle.std.proofs.lemmas.Bool.{cases_lt, leb-true, leb-false, le-leb}
use Rattle.std.proofs.lemmas.List.{get_or_append_left, get_or-map, get_or_default, length-map, take_all}
use Rattle.std.proofs.Math.Seq.{get_or-append_seam}
use Rattle.tb_value.specs.Promise.Datum.{Datum}
use Rattle.tb_chunk.specs.Promise.Col.{Col, concatenation}
use Rattle.tb_frame.specs.Frame.{lens, lengths}
use Rattle.tb_gather.specs.Ids.{AreStarts}
use Rattle.tb_gather.proofs.Naming.{sum-cons}

pub sum-total : (chunks : List (List Datum)) → sum (lengths chunks) ≡ length (concatenation chunks)
sum-total [] = refl
sum-total (vs ∷ rest) = omega (arith, sum-cons (length vs) (lengths rest), sum-total rest, length-append vs (concatenation rest))

sum-suc : (ns : List ℕ) (k : ℕ) → k < length ns → sum (take (suc k) ns) ≡ sum (take k ns) + get_or ns k 0
sum-suc [] k h = absurd (omega arith)
sum-suc (n ∷ ns) zero h = refl
sum-suc (n ∷ ns) (suc k) h = omega (arith, sum-cons n (take (suc k) ns), sum-cons n (take k ns), sum-suc ns k (omega arith))

pub sum-next : (ns : List ℕ) (k : ℕ) → k < length ns → sum (take (k + 1) ns) ≡ sum (take k ns) + get_or ns k 0
sum-next ns k h = let n : k + 1 ≡ suc k = omega arith in ap (λ j. sum (take j ns)) n ∙ sum-suc ns k h

sum-up : (ns : List ℕ) (i j : ℕ) → i ≤ j → sum (take i ns) ≤ sum (take j ns)
sum-up ns zero j h = omega arith
sum-up ns (suc i) zero h = absurd (omega arith)
sum-up [] (suc i) (suc j) h = omega arith
sum-up (n ∷ ns) (suc i) (suc j) h = omega (arith, sum-cons n (take i ns), sum-cons n (take j ns), sum-up ns i j (omega arith))

pub sum-below : (ns : List ℕ) (j : ℕ) → sum (take j ns) ≤ sum ns
sum-below ns j = omega (arith, sum-up ns j (j + length ns) (omega arith), ap sum (take_all (j + length ns) ns (omega arith)))

sum-some : (row : ℕ) (ns : List ℕ) → row < sum ns → 0 < length ns
sum-some row [] h = absurd (omega arith)
sum-some row (n ∷ ns) h = omega arith

-- the lengths of a column's chunks
pub lens-at : (c : Col) (k : ℕ) → k < length c.chunks → get_or (lens c) k 0 ≡ length (get_or c.chunks k [])
lens-at c k low = get_or-map (λ (vs : List Datum). length vs) c.chunks k [] 0 low

pub lens-count : (c : Col) → length (lens c) ≡ length c.chunks
lens-count c = length-map c.chunks (λ (vs : List Datum). length vs)

-- one start more
pub starts-more : (ns starts : List ℕ) (n start : ℕ) → length starts ≡ n → ((k : ℕ) → k < n → get_or starts k 0 ≡ sum (take k ns)) → start ≡ sum (take n ns) → (k : ℕ) → k < n + 1 → get_or (starts ++ start ∷ []) k 0 ≡ sum (take k ns)
starts-more ns starts n start long each is k low = by_place (cases_lt k n)
  where
    by_place : (k < n) ⊎ (n ≤ k) → get_or (starts ++ start ∷ []) k 0 ≡ sum (take k ns)
    by_place (inl before) = get_or_append_left starts (start ∷ []) 0 k (omega (arith, long)) ∙ each k before
    by_place (inr here) =
        let last : k ≡ length starts = omega (arith, long) in
        let same : n ≡ k = omega arith in
        ap (λ j. get_or (starts ++ start ∷ []) j 0) last ∙ (get_or-append_seam starts start [] 0 ∙ (is ∙ ap (λ j. sum (take j ns)) same))

-- starts ascend
pub starts-parted : (ns starts : List ℕ) (row : ℕ) → AreStarts ns starts → IsPartitionedBy (λ s. nat_le s row) starts
starts-parted ns starts row are i j d up low e =
    let at-i : get_or starts i d ≡ sum (take i ns) = get_or_default starts i d 0 (omega arith) ∙ are.each i (omega (arith, are.whole)) in
    let at-j : get_or starts j d ≡ sum (take j ns) = get_or_default starts j d 0 low ∙ are.each j (omega (arith, are.whole)) in
    le-leb (get_or starts i d) row (omega (arith, leb-true (get_or starts j d) row e, sum-up ns i j up, at-i, at-j))

-- the chunk before the first that starts behind a row
module _ (ns starts : List ℕ) (are : AreStarts ns starts) (row i : ℕ) (some : row < sum ns) (bound : i ≤ length starts) (point : IsPartitionPoint (λ s. nat_le s row ≡ true) (λ s. nat_le s row ≡ false) starts i) where
  behind : (k : ℕ) → i ≤ k → k < length ns → row < sum (take k ns)
  behind k h low = omega (arith, leb-false (get_or starts k 0) row (point.1 k 0 h (omega (arith, are.whole))), are.each k low)

  pub chunk-some : 0 < i
  chunk-some = by_place (cases_lt 0 i)
    where
      by_place : (0 < i) ⊎ (i ≤ 0) → 0 < i
      by_place (inl h) = h
      by_place (inr h) = absurd (omega (arith, behind 0 h (sum-some row ns some)))

  pub chunk-low : get_or starts (i - 1) 0 ≤ row
  chunk-low = leb-true (get_or starts (i - 1) 0) row (point.0 (i - 1) 0 (omega arith) (omega (arith, chunk-some)))

  below-next : row < sum (take i ns)
  below-next = by_place (cases_lt i (length ns))
    where
      by_place : (i < length ns) ⊎ (length ns ≤ i) → row < sum (take i ns)
      by_place (inl h) = behind i (omega arith) h
      by_place (inr h) = omega (arith, some, ap sum (take_all i ns h))

  pub chunk-within : row < get_or starts (i - 1) 0 + get_or ns (i - 1) 0
  chunk-within =
      let n : i - 1 + 1 ≡ i = omega (arith, chunk-some) in
      let low : i - 1 < length ns = omega (arith, chunk-some, are.whole) in
      omega (arith, below-next, ap (λ j. sum (take j ns)) n, sum-next ns (i - 1) low, are.each (i - 1) low)
