-- How the rows of a side run along the listed pairs.
use Rattle.std.proofs.Common.{◌≡◌, ℕ, ◌+◌, ◌<◌, ◌≤◌, ◌-◌, Bool, false, List, [], ◌∷◌, ◌++◌, length, get_or, map, take, drop, refl, sym, subst, arith, Option, Some, None}
use Rattle.std.specs.Prelude.{All, AllPairs, IsPermutation, IsSome, IsSorted as IsInOrder, filter, not, ℤ}
use Rattle.std.specs.List.{flat_map, list_any}
use Rattle.std.specs.Ordering.{MatchOrdering, is_lt, nat_cmp, ordering_then}
use Rattle.std.specs.declared.cmp.Ordering.{Ordering}
use Rattle.std.specs.declared.cmp.Ordering.TheVariants.{Less, Equal, Greater}
use Rattle.std.proofs.lemmas.Bool.{false≢true}
use Rattle.std.proofs.lemmas.Cmp.{ranked}
use Rattle.std.proofs.lemmas.List.{get_or-drop, get_or-map, get_or-take, length-drop, length-map, length-take}
use Rattle.std.proofs.lemmas.List.Elements.{All-append, All-map}
use Rattle.std.proofs.lemmas.List.Sorted.{All-permutation, ranks_by, sorted_far}
use Rattle.tb_value.specs.declared.index.JoinPair.{JoinPair}
use Rattle.tb_value.specs.declared.sorted.IsSorted.TheVariants.{Ascending}
use Rattle.tb_value.specs.Promise.Pairs.{both, left_first, left_met, left_only, left_unmet, matched_pairs, right_first, right_only, right_unmet, row_cmp, row_numbers}
use Rattle.tb_value.proofs.Orders.{left_first_total, right_first_total}
use Rattle.tb_chunk.specs.Window.{part_from, part_to}
use Rattle.tb_frame.specs.declared.args.Direction.{Direction}
use Rattle.tb_frame.specs.declared.args.Direction.TheVariants.{Free, ByLeft, ByRight}
use Rattle.tb_frame.specs.declared.args.JoinArgs.{JoinArgs}
use Rattle.tb_frame.specs.declared.args.JoinType.{JoinType}
use Rattle.tb_frame.specs.declared.args.JoinType.TheVariants.{Inner, Left, Right, Full, Semi, Anti}
use Rattle.tb_frame.specs.Answer.{IsListed}
use Rattle.tb_frame.specs.Promise.Join.{Ascends, cut, direction, listing_of}
use Rattle.tb_frame.proofs.Ranges.{All-cut}
use Rattle.tb_frame.proofs.Windows.{slice_window}
use Rattle.tb_gather.specs.Ids.{IsRowUpTo, AreAllRowsInOrder}
use Rattle.tb_join.specs.RowOrder.{AscendAsAsked, left_order, right_order}

-- PAIRS OF A LIST

module _ {X : Type 0} (R : X → X → Type 0) where
  AllPairs-take : (n : ℕ) (xs : List X) → AllPairs R xs → AllPairs R (take n xs)
  AllPairs-take n xs h = λ i j d low high.
      let long = length-take n xs in
      rw (get_or-take n xs i d (omega (arith, long)), get_or-take n xs j d (omega (arith, long))) (h i j d low (omega (arith, long)))

  AllPairs-drop : (n : ℕ) (xs : List X) → AllPairs R xs → AllPairs R (drop n xs)
  AllPairs-drop n xs h = λ i j d low high.
      let long = length-drop n xs in
      rw (get_or-drop n xs i d, get_or-drop n xs j d) (h (n + i) (n + j) d (omega (arith, low)) (omega (arith, long, high)))

  -- what is cut out of a list runs as the list
  pub AllPairs-cut : (s : Option (ℤ × ℕ)) (xs : List X) → AllPairs R xs → AllPairs R (cut s xs)
  AllPairs-cut None xs h = h
  AllPairs-cut (Some s) xs h =
      let from = part_from (length xs) s.0 in
      subst (λ (ys : List X). AllPairs R ys) (sym (slice_window xs s.0 s.1)) (AllPairs-take (part_to (length xs) s.0 s.1 - from) (drop from xs) (AllPairs-drop from xs h))

-- ROWS OF ORDERED PAIRS

not_less : (i j : ℕ) (rest o : Ordering) → MatchOrdering o (j < i) (j ≡ i) (i < j) → is_lt (ordering_then o rest) ≡ false → i ≤ j
not_less i j rest Less r h = absurd (false≢true (sym h))
not_less i j rest Equal r h = omega (arith, r)
not_less i j rest Greater r h = omega (arith, r)

row_up : (a b : Option ℕ) (rest : Ordering) → is_lt (ordering_then (row_cmp b a) rest) ≡ false → IsRowUpTo a b
row_up None b rest h = tt
row_up (Some i) None rest h = tt
row_up (Some i) (Some j) rest h = not_less i j rest (nat_cmp j i) (ranked j i (nat_cmp j i) refl) h

left_up : (ps : List JoinPair) → IsInOrder left_first ps → AllPairs (λ (p q : JoinPair). IsRowUpTo p.left q.left) ps
left_up ps sorted = λ i j d low high.
    row_up (get_or ps i d).left (get_or ps j d).left (row_cmp (get_or ps j d).right (get_or ps i d).right)
    (sorted_far (λ a b. is_lt (left_first a b)) (ranks_by left_first_total (λ (p : JoinPair). p)) ps sorted i j d (omega (arith, low)) high)

right_up : (ps : List JoinPair) → IsInOrder right_first ps → AllPairs (λ (p q : JoinPair). IsRowUpTo p.right q.right) ps
right_up ps sorted = λ i j d low high.
    row_up (get_or ps i d).right (get_or ps j d).right (row_cmp (get_or ps j d).left (get_or ps i d).left)
    (sorted_far (λ a b. is_lt (right_first a b)) (ranks_by right_first_total (λ (p : JoinPair). p)) ps sorted i j d (omega (arith, low)) high)

-- of pairs that are ordered by a side whose row each one has, those that are kept ascend by it
module _ (side : JoinPair → Option ℕ) (s : Option (ℤ × ℕ)) (list ps items : List JoinPair) (same : IsPermutation list ps) (is : items ≡ cut s ps) where
  ascending : All (λ (p : JoinPair). IsSome (side p)) list → AllPairs (λ (p q : JoinPair). IsRowUpTo (side p) (side q)) ps → AreAllRowsInOrder Ascending (map side items)
  ascending there up =
      let kept : All (λ (p : JoinPair). IsSome (side p)) items = subst (λ (xs : List JoinPair). All (λ (p : JoinPair). IsSome (side p)) xs) (sym is) (All-cut (λ (p : JoinPair). IsSome (side p)) s ps (All-permutation (λ (p : JoinPair). IsSome (side p)) list ps same there)) in
      let runs : AllPairs (λ (p q : JoinPair). IsRowUpTo (side p) (side q)) items = subst (λ (xs : List JoinPair). AllPairs (λ (p q : JoinPair). IsRowUpTo (side p) (side q)) xs) (sym is) (AllPairs-cut (λ (p q : JoinPair). IsRowUpTo (side p) (side q)) s ps up) in
      (All-map (λ (row : Option ℕ). IsSome row) side items kept, AllPairs-map items runs)
    where
      AllPairs-map : (xs : List JoinPair) → AllPairs (λ (p q : JoinPair). IsRowUpTo (side p) (side q)) xs → AllPairs IsRowUpTo (map side xs)
      AllPairs-map xs h = λ i j d low high.
          let long = length-map xs side in
          let e : JoinPair = record { left = None; right = None } in
          rw (get_or-map side xs i e d (omega (arith, long, low, high)), get_or-map side xs j e d (omega (arith, long, high))) (h i j e low (omega (arith, long, high)))

-- ROWS THAT EACH PAIR HAS

all_matched : (P : JoinPair → Type 0) → ((i j : ℕ) → P (both i j)) → (l r : ℕ) (m : ℕ → ℕ → Bool) → All P (matched_pairs l r m)
all_matched P each l r m = over (row_numbers l)
  where
    over : (rows : List ℕ) → All P (flat_map (λ i. map (both i) (filter (m i) (row_numbers r))) rows)
    over [] = λ k d low. absurd (omega arith)
    over (i ∷ rows) = All-append P (map (both i) (filter (m i) (row_numbers r))) (flat_map (λ j. map (both j) (filter (m j) (row_numbers r))) rows) (All-map P (both i) (filter (m i) (row_numbers r)) (λ k d low. each i _)) (over rows)

abbrev HasLeft : JoinPair → Type 0
HasLeft p = IsSome p.left

abbrev HasRight : JoinPair → Type 0
HasRight p = IsSome p.right

module _ (l r : ℕ) (m : ℕ → ℕ → Bool) (s : Option (ℤ × ℕ)) (ps items : List JoinPair) where
  left-runs : (d : Direction) (how : JoinType) → IsPermutation (listing_of how l r m) ps → Ascends d ps → items ≡ cut s ps → AreAllRowsInOrder (left_order d how) (map (λ (p : JoinPair). p.left) items)
  left-runs Free how same up is = tt
  left-runs ByRight how same up is = tt
  left-runs ByLeft Inner same up is = ascending (λ (p : JoinPair). p.left) s (matched_pairs l r m) ps items same is (all_matched HasLeft (λ i j. refl) l r m) (left_up ps up)
  left-runs ByLeft Left same up is =
      ascending (λ (p : JoinPair). p.left) s (matched_pairs l r m ++ left_unmet l r m) ps items same is
      (All-append HasLeft (matched_pairs l r m) (left_unmet l r m) (all_matched HasLeft (λ i j. refl) l r m) (All-map HasLeft left_only (filter (λ i. not (list_any (m i) (row_numbers r))) (row_numbers l)) (λ k d low. refl))) (left_up ps up)
  left-runs ByLeft Semi same up is =
      ascending (λ (p : JoinPair). p.left) s (left_met l r m) ps items same is (All-map HasLeft left_only (filter (λ i. list_any (m i) (row_numbers r)) (row_numbers l)) (λ k d low. refl)) (left_up ps up)
  left-runs ByLeft Anti same up is =
      ascending (λ (p : JoinPair). p.left) s (left_unmet l r m) ps items same is (All-map HasLeft left_only (filter (λ i. not (list_any (m i) (row_numbers r))) (row_numbers l)) (λ k d low. refl)) (left_up ps up)
  left-runs ByLeft Right same up is = tt
  left-runs ByLeft Full same up is = tt

  right-runs : (d : Direction) (how : JoinType) → IsPermutation (listing_of how l r m) ps → Ascends d ps → items ≡ cut s ps → AreAllRowsInOrder (right_order d how) (map (λ (p : JoinPair). p.right) items)
  right-runs Free how same up is = tt
  right-runs ByLeft how same up is = tt
  right-runs ByRight Inner same up is = ascending (λ (p : JoinPair). p.right) s (matched_pairs l r m) ps items same is (all_matched HasRight (λ i j. refl) l r m) (right_up ps up)
  right-runs ByRight Right same up is =
      ascending (λ (p : JoinPair). p.right) s (matched_pairs l r m ++ right_unmet l r m) ps items same is
      (All-append HasRight (matched_pairs l r m) (right_unmet l r m) (all_matched HasRight (λ i j. refl) l r m) (All-map HasRight right_only (filter (λ j. not (list_any (λ i. m i j) (row_numbers l))) (row_numbers r)) (λ k d low. refl))) (right_up ps up)
  right-runs ByRight Left same up is = tt
  right-runs ByRight Full same up is = tt
  right-runs ByRight Semi same up is = tt
  right-runs ByRight Anti same up is = tt

-- the rows of a listing that is ordered and cut as the arguments ask run as they say
pub run-as-asked : (a : JoinArgs) (l r : ℕ) (m : ℕ → ℕ → Bool) (items : List JoinPair) → IsListed a.how a.maintain_order a.slice (listing_of a.how l r m) items → AscendAsAsked a items
run-as-asked a l r m items h = record {
  left = left-runs l r m a.slice h.pairs items (direction a.how a.maintain_order) a.how h.ordered.permutation h.ordered.ascends h.is;
  right = right-runs l r m a.slice h.pairs items (direction a.how a.maintain_order) a.how h.ordered.permutation h.ordered.ascends h.is;
}
