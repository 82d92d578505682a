-- For each kind and each order a list of the pairs that stands in it.
use Rattle.std.proofs.Common.{◌≡◌, ℕ, Bool, List, ◌++◌, map, refl, ap, sym, ◌∙◌, subst, append_assoc}
use Rattle.std.specs.Prelude.{filter, not, IsPermutation, IsSorted}
use Rattle.std.specs.List.{list_any}
use Rattle.std.proofs.lemmas.List.{map-append}
use Rattle.std.proofs.lemmas.List.Sorted.{IsPermutation-refl, IsPermutation-sym, IsPermutation-trans, IsPermutation-append_comm, IsPermutation-append_left, IsPermutation-append_right, IsPermutation-map}
use Rattle.tb_value.specs.declared.index.JoinPair.{JoinPair}
use Rattle.tb_value.specs.Promise.Pairs.{row_numbers, right_only, matched_pairs, left_met, left_unmet, right_unmet, left_first, right_first}
use Rattle.tb_value.specs.Pairs.{turn}
use Rattle.tb_value.proofs.Ascending.{matched-sorted, left_met-sorted, left_unmet-sorted}
use Rattle.tb_value.proofs.Loops.{map-map, permuted, turned_matches}
use Rattle.tb_value.proofs.Probes.{each_left, each_left-permutation, each_row-permutation, each_left-sorted, each_row-sorted, matched_then-sorted, turn_twice, turned_to_right, left_alone-sorted_right}
use Rattle.tb_frame.specs.declared.args.JoinType.{JoinType}
use Rattle.tb_frame.specs.declared.args.JoinType.TheVariants.{Inner, Left, Right, Full, Semi, Anti}
use Rattle.tb_frame.specs.declared.args.MaintainOrderJoin.{MaintainOrderJoin}
use Rattle.tb_frame.specs.declared.args.Direction.{Direction}
use Rattle.tb_frame.specs.declared.args.Direction.TheVariants.{Free, ByLeft, ByRight}
use Rattle.tb_frame.specs.Promise.Join.{listing_of, Ascends, direction, IsOrdered}
use Rattle.tb_frame.proofs.Turns.{turned_listing}

-- by left rows and then by right rows
abbrev pub left_way : JoinType → ℕ → ℕ → (ℕ → ℕ → Bool) → List JoinPair
left_way Inner l r m = matched_pairs l r m
left_way Left l r m = each_left l r m
left_way Right l r m = matched_pairs l r m ++ right_unmet l r m
left_way Full l r m = each_left l r m ++ right_unmet l r m
left_way Semi l r m = left_met l r m
left_way Anti l r m = left_unmet l r m

-- by right rows and then by left rows: the pairs of the exchanged sides, turned round
abbrev pub right_way : JoinType → ℕ → ℕ → (ℕ → ℕ → Bool) → List JoinPair
right_way Inner l r m = map turn (matched_pairs r l (λ j i. m i j))
right_way Left l r m = map turn (matched_pairs r l (λ j i. m i j) ++ right_unmet r l (λ j i. m i j))
right_way Right l r m = map turn (each_left r l (λ j i. m i j))
right_way Full l r m = map turn (each_left r l (λ j i. m i j) ++ right_unmet r l (λ j i. m i j))
right_way Semi l r m = left_met l r m
right_way Anti l r m = left_unmet l r m

abbrev pub in_order : Direction → JoinType → ℕ → ℕ → (ℕ → ℕ → Bool) → List JoinPair
in_order Free how l r m = left_way how l r m
in_order ByLeft how l r m = left_way how l r m
in_order ByRight how l r m = right_way how l r m

pub left_way-permutation : (how : JoinType) (l r : ℕ) (m : ℕ → ℕ → Bool) → IsPermutation (listing_of how l r m) (left_way how l r m)
left_way-permutation Inner l r m = IsPermutation-refl (matched_pairs l r m)
left_way-permutation Left l r m = each_left-permutation l r m
left_way-permutation Right l r m = IsPermutation-refl (matched_pairs l r m ++ right_unmet l r m)
left_way-permutation Full l r m = each_row-permutation l r m
left_way-permutation Semi l r m = IsPermutation-refl (left_met l r m)
left_way-permutation Anti l r m = IsPermutation-refl (left_unmet l r m)

pub left_way-sorted : (how : JoinType) (l r : ℕ) (m : ℕ → ℕ → Bool) → IsSorted left_first (left_way how l r m)
left_way-sorted Inner l r m = matched-sorted l r m
left_way-sorted Left l r m = each_left-sorted l r m
left_way-sorted Right l r m = matched_then-sorted l r m
left_way-sorted Full l r m = each_row-sorted l r m
left_way-sorted Semi l r m = left_met-sorted l r m
left_way-sorted Anti l r m = left_unmet-sorted l r m

-- the last two of three lists exchanged
swapped : (xs ys zs : List JoinPair) → IsPermutation (xs ++ ys ++ zs) (xs ++ zs ++ ys)
swapped xs ys zs =
    let there : IsPermutation (xs ++ (ys ++ zs)) (xs ++ (zs ++ ys)) = IsPermutation-append_right xs (ys ++ zs) (zs ++ ys) (IsPermutation-append_comm ys zs) in
    let from : IsPermutation (xs ++ ys ++ zs) (xs ++ (zs ++ ys)) = subst (λ (x : List JoinPair). IsPermutation x (xs ++ (zs ++ ys))) (sym (append_assoc xs ys zs)) there in
    permuted (xs ++ ys ++ zs) (xs ++ (zs ++ ys)) (xs ++ zs ++ ys) (sym (append_assoc xs zs ys)) from

module _ (l r : ℕ) (m : ℕ → ℕ → Bool) where
  inner_right : IsPermutation (matched_pairs l r m) (map turn (matched_pairs r l (λ j i. m i j)))
  inner_right = IsPermutation-sym (map turn (matched_pairs r l (λ j i. m i j))) (matched_pairs l r m) (turned_matches l r m)

  left_right : IsPermutation (matched_pairs l r m ++ left_unmet l r m) (map turn (matched_pairs r l (λ j i. m i j) ++ right_unmet r l (λ j i. m i j)))
  left_right =
      let here : List JoinPair = matched_pairs l r m ++ left_unmet l r m in
      let there : List JoinPair = matched_pairs r l (λ j i. m i j) ++ right_unmet r l (λ j i. m i j) in
      let twice : IsPermutation (map turn (map turn here)) (map turn there) = IsPermutation-map turn (map turn here) there (turned_listing r l (λ j i. m i j) m refl) in
      subst (λ (x : List JoinPair). IsPermutation x (map turn there)) (turn_twice here) twice

  right_right : IsPermutation (matched_pairs l r m ++ right_unmet l r m) (map turn (each_left r l (λ j i. m i j)))
  right_right =
      let here : List JoinPair = matched_pairs l r m ++ right_unmet l r m in
      let there : List JoinPair = matched_pairs r l (λ j i. m i j) ++ left_unmet r l (λ j i. m i j) in
      let rows : List JoinPair = each_left r l (λ j i. m i j) in
      IsPermutation-trans here (map turn there) (map turn rows) (IsPermutation-sym (map turn there) here (turned_listing l r m (λ j i. m i j) refl)) (IsPermutation-map turn there rows (each_left-permutation r l (λ j i. m i j)))

  full_right : IsPermutation (matched_pairs l r m ++ left_unmet l r m ++ right_unmet l r m) (map turn (each_left r l (λ j i. m i j) ++ right_unmet r l (λ j i. m i j)))
  full_right =
      let rows : List JoinPair = each_left r l (λ j i. m i j) in
      let last : List JoinPair = right_unmet r l (λ j i. m i j) in
      let alone : map turn last ≡ left_unmet l r m = map-map turn right_only (filter (λ i. not (list_any (m i) (row_numbers r))) (row_numbers l)) in
      let split : map turn (rows ++ last) ≡ map turn rows ++ left_unmet l r m = map-append turn rows last ∙ ap (λ (x : List JoinPair). map turn rows ++ x) alone in
      let halves : IsPermutation (matched_pairs l r m ++ right_unmet l r m ++ left_unmet l r m) (map turn rows ++ left_unmet l r m) = IsPermutation-append_left (left_unmet l r m) (matched_pairs l r m ++ right_unmet l r m) (map turn rows) right_right in
      let whole : IsPermutation (matched_pairs l r m ++ left_unmet l r m ++ right_unmet l r m) (map turn rows ++ left_unmet l r m) = IsPermutation-trans (matched_pairs l r m ++ left_unmet l r m ++ right_unmet l r m) (matched_pairs l r m ++ right_unmet l r m ++ left_unmet l r m) (map turn rows ++ left_unmet l r m) (swapped (matched_pairs l r m) (left_unmet l r m) (right_unmet l r m)) halves in
      permuted (matched_pairs l r m ++ left_unmet l r m ++ right_unmet l r m) (map turn rows ++ left_unmet l r m) (map turn (rows ++ last)) (sym split) whole

pub right_way-permutation : (how : JoinType) (l r : ℕ) (m : ℕ → ℕ → Bool) → IsPermutation (listing_of how l r m) (right_way how l r m)
right_way-permutation Inner l r m = inner_right l r m
right_way-permutation Left l r m = left_right l r m
right_way-permutation Right l r m = right_right l r m
right_way-permutation Full l r m = full_right l r m
right_way-permutation Semi l r m = IsPermutation-refl (left_met l r m)
right_way-permutation Anti l r m = IsPermutation-refl (left_unmet l r m)

pub right_way-sorted : (how : JoinType) (l r : ℕ) (m : ℕ → ℕ → Bool) → IsSorted right_first (right_way how l r m)
right_way-sorted Inner l r m = turned_to_right (matched_pairs r l (λ j i. m i j)) (matched-sorted r l (λ j i. m i j))
right_way-sorted Left l r m = turned_to_right (matched_pairs r l (λ j i. m i j) ++ right_unmet r l (λ j i. m i j)) (matched_then-sorted r l (λ j i. m i j))
right_way-sorted Right l r m = turned_to_right (each_left r l (λ j i. m i j)) (each_left-sorted r l (λ j i. m i j))
right_way-sorted Full l r m = turned_to_right (each_left r l (λ j i. m i j) ++ right_unmet r l (λ j i. m i j)) (each_row-sorted r l (λ j i. m i j))
right_way-sorted Semi l r m = left_alone-sorted_right (λ i. list_any (m i) (row_numbers r)) l
right_way-sorted Anti l r m = left_alone-sorted_right (λ i. not (list_any (m i) (row_numbers r))) l

in_order-permutation : (d : Direction) (how : JoinType) (l r : ℕ) (m : ℕ → ℕ → Bool) → IsPermutation (listing_of how l r m) (in_order d how l r m)
in_order-permutation Free how l r m = left_way-permutation how l r m
in_order-permutation ByLeft how l r m = left_way-permutation how l r m
in_order-permutation ByRight how l r m = right_way-permutation how l r m

in_order-ascends : (d : Direction) (how : JoinType) (l r : ℕ) (m : ℕ → ℕ → Bool) → Ascends d (in_order d how l r m)
in_order-ascends Free how l r m = tt
in_order-ascends ByLeft how l r m = left_way-sorted how l r m
in_order-ascends ByRight how l r m = right_way-sorted how l r m

pub in_order-ordered : (how : JoinType) (o : MaintainOrderJoin) (l r : ℕ) (m : ℕ → ℕ → Bool) → IsOrdered how o (in_order (direction how o) how l r m) (listing_of how l r m)
in_order-ordered how o l r m = record { permutation = in_order-permutation (direction how o) how l r m; ascends = in_order-ascends (direction how o) how l r m }
