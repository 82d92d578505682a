-- The right rows that match a left row are a run.
use Rattle.std.proofs.Common.{◌≡◌, ℕ, zero, suc, ◌+◌, ◌-◌, ◌<◌, ◌≤◌, Bool, true, false, cond, List, [], ◌∷◌, ◌++◌, length, map, refl, sym, ap, ap₂, ◌∙◌, arith, ℤ, ◌<ℤ◌, append-nil}
use Rattle.std.specs.Prelude.{filter}
use Rattle.std.specs.Ordering.{int_eq}
use Rattle.std.specs.List.{range_with_len}
use Rattle.std.proofs.lemmas.Int.{ints}
use Rattle.std.proofs.lemmas.Bool.Decides.{nat_tests, Decides-int_eq}
use Rattle.std.proofs.lemmas.List.Elements.{filter-append}
use Rattle.tb_value.specs.Promise.Pairs.{row_numbers, both, matched_pairs}
use Rattle.tb_value.proofs.Loops.{flat_map_agree}
use Rattle.tb_value.proofs.Probes.{left_pairs, each_left}
use Rattle.tb_value.proofs.RowNumbers.{range_cut}
use Rattle.tb_merge.specs.Keys.{key_at, keys_match}
use Rattle.tb_merge.specs.Runs.{IsRun}
use Rattle.tb_merge.specs.RowPairs.{row_pairs, rows_of, pairs_of}

-- ROWS THAT ALL PASS, AND NONE

module _ (p : ℕ → Bool) where
  none : (a n : ℕ) → ((j : ℕ) → a ≤ j → j < a + n → p j ≡ false) → filter p (range_with_len a n) ≡ []
  none a zero h = refl
  none a (suc n) h =
      (λ t. cond (h a (omega arith) (omega arith) t) (a ∷ filter p (range_with_len (a + 1) n)) (filter p (range_with_len (a + 1) n)))
      ∙ none (a + 1) n (λ j low high. h j (omega arith) (omega arith))

  all : (a n : ℕ) → ((j : ℕ) → a ≤ j → j < a + n → p j ≡ true) → filter p (range_with_len a n) ≡ range_with_len a n
  all a zero h = refl
  all a (suc n) h =
      (λ t. cond (h a (omega arith) (omega arith) t) (a ∷ filter p (range_with_len (a + 1) n)) (filter p (range_with_len (a + 1) n)))
      ∙ ap (λ (l : List ℕ). a ∷ l) (all (a + 1) n (λ j low high. h j (omega arith) (omega arith)))

  -- those that pass stand side by side
  pub side_by_side : (s e r : ℕ) → s ≤ e → e ≤ r → ((j : ℕ) → j < s → p j ≡ false)
      → ((j : ℕ) → s ≤ j → j < e → p j ≡ true) → ((j : ℕ) → e ≤ j → j < r → p j ≡ false)
      → filter p (range_with_len 0 r) ≡ range_with_len s (e - s)
  side_by_side s e r le within before inside behind =
      let count : s + ((e - s) + (r - e)) ≡ r = omega arith in
      let first : 0 + s ≡ s = omega arith in
      let second : s + (e - s) ≡ e = omega arith in
      let cut : range_with_len 0 r ≡ range_with_len 0 s ++ (range_with_len s (e - s) ++ range_with_len e (r - e)) =
      ap (range_with_len 0) (sym count) ∙ range_cut 0 s ((e - s) + (r - e))
      ∙ ap (λ (b : ℕ). range_with_len 0 s ++ range_with_len b ((e - s) + (r - e))) first
      ∙ ap (λ (l : List ℕ). range_with_len 0 s ++ l) (range_cut s (e - s) (r - e) ∙ ap (λ (b : ℕ). range_with_len s (e - s) ++ range_with_len b (r - e)) second) in
      ap (filter p) cut
      ∙ filter-append p (range_with_len 0 s) (range_with_len s (e - s) ++ range_with_len e (r - e))
      ∙ ap₂ (λ (x y : List ℕ). x ++ y) (none 0 s (λ j low high. before j (omega arith)))
      (filter-append p (range_with_len s (e - s)) (range_with_len e (r - e))
      ∙ ap₂ (λ (x y : List ℕ). x ++ y) (all s (e - s) (λ j low high. inside j low (omega arith))) (none e (r - e) (λ j low high. behind j low (omega arith))))
      ∙ append-nil (range_with_len s (e - s))

differ_below : (x y : ℤ) → y <ℤ x → int_eq x y ≡ false
differ_below x y h = grind (arith, ints, nat_tests)

differ_above : (x y : ℤ) → x <ℤ y → int_eq x y ≡ false
differ_above x y h = grind (arith, ints, nat_tests)

pub run_rows : (left right : List ℤ) (i s e : ℕ) → IsRun right (key_at left i) s e → rows_of left right i ≡ range_with_len s (e - s)
run_rows left right i s e run =
    side_by_side (keys_match left right i) s e (length right) run.scanned.ordered run.scanned.within
    (λ j low. differ_below (key_at left i) (key_at right j) (run.scanned.lower j low))
    (λ j low high. (Decides-int_eq (key_at left i) (key_at right j)).1 (sym (run.scanned.equal j low high)))
    (λ j low high. differ_above (key_at left i) (key_at right j) (run.greater j low high))

-- THE LISTINGS

inner_row : (i : ℕ) (js : List ℕ) → row_pairs false i js ≡ map (both i) js
inner_row i [] = refl
inner_row i (j ∷ js) = refl

left_row : (i : ℕ) (js : List ℕ) → row_pairs true i js ≡ left_pairs i js
left_row i [] = refl
left_row i (j ∷ js) = refl

module _ (left right : List ℤ) where
  pub inner_is : pairs_of left right false (row_numbers (length left)) ≡ matched_pairs (length left) (length right) (keys_match left right)
  inner_is =
      flat_map_agree (λ i. row_pairs false i (rows_of left right i)) (λ i. map (both i) (rows_of left right i))
      (λ i. inner_row i (rows_of left right i)) (row_numbers (length left))

  pub left_is : pairs_of left right true (row_numbers (length left)) ≡ each_left (length left) (length right) (keys_match left right)
  left_is =
      flat_map_agree (λ i. row_pairs true i (rows_of left right i)) (λ i. left_pairs i (rows_of left right i))
      (λ i. left_row i (rows_of left right i)) (row_numbers (length left))
