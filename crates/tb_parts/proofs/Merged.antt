-- Where an order is fixed, the ordered pairs of a part are those of the whole that are of the part, in their order.
use Rattle.std.proofs.Common.{◌≡◌, ◌≢◌, ℕ, ◌+◌, ◌<◌, Bool, cond, eqb, List, [], length, get_or, map, refl, ap, sym, ◌∙◌, subst, arith}
use Rattle.std.specs.Prelude.{All, AllPairs, count_by, filter, sum_by, IsPermutation, IsSorted}
use Rattle.std.specs.Cmp.{IsTotalOrder}
use Rattle.std.specs.Ordering.{is_lt, ordering_then}
use Rattle.std.specs.declared.cmp.Ordering.{Ordering}
use Rattle.std.proofs.lemmas.List.{get_or-map, length-map, map-id}
use Rattle.std.proofs.lemmas.List.Sorted.{All-permutation, IsPermutation-map, ranks_by, sorted_far, sum_by-IsPermutation}
use Rattle.tb_value.specs.Promise.Datum.{Datum}
use Rattle.tb_value.specs.Promise.Pairs.{left_first, right_first}
use Rattle.tb_value.specs.declared.index.JoinPair.{JoinPair}
use Rattle.tb_value.proofs.Ascending.{AllPairs-thinned, Ascends_by-from_pairs, NotBelow, sorted_from-Ascends_by}
use Rattle.tb_value.proofs.Counts.{sum_by-filter}
use Rattle.tb_value.proofs.Orders.{left_first_same, left_first_total, right_first_same, right_first_total}
use Rattle.tb_value.proofs.Unique.{unique}
use Rattle.tb_frame.specs.declared.args.Direction.{Direction}
use Rattle.tb_frame.specs.declared.args.Direction.TheVariants.{Free, ByLeft, ByRight}
use Rattle.tb_frame.specs.Promise.Table.{height}
use Rattle.tb_frame.specs.Promise.Join.{Ascends, Request, listing}
use Rattle.tb_parts.specs.Promise.Parts.{left_part, left_rows, part_of_pair, part_request, right_part, right_rows, whole_pair}
use Rattle.tb_parts.proofs.Ascending.{row_stays}
use Rattle.tb_parts.proofs.Outs.{IsPairAmong}
use Rattle.tb_parts.proofs.Requests.{listed_in_part}
use Rattle.tb_parts.proofs.Together.{listed_among}

-- LISTS IN AN ORDER

module _ {X : Type 0} (cmp : X → X → Ordering) where
  -- what passes a test stays in order
  pub sorted_kept : IsTotalOrder cmp → (here : X → Bool) (xs : List X) → IsSorted cmp xs → IsSorted cmp (filter here xs)
  sorted_kept total here xs sorted =
      let far : AllPairs (NotBelow cmp) xs = λ i j d low high. sorted_far (λ a b. is_lt (cmp a b)) (ranks_by total (λ (x : X). x)) xs sorted i j d (omega (arith, low)) high in
      let thinned : AllPairs (NotBelow cmp) (map (λ (x : X). x) (filter here xs))
      = AllPairs-thinned (NotBelow cmp) (λ (x : X). x) here [] xs (subst (AllPairs (NotBelow cmp)) (sym (map-id xs)) far) in
      sorted_from-Ascends_by cmp (filter here xs) (Ascends_by-from_pairs (NotBelow cmp) (filter here xs) (subst (AllPairs (NotBelow cmp)) (map-id (filter here xs)) thinned))

  -- and so do elements that are seen otherwise, where they compare as before
  pub sorted_seen : (f : X → X) (P : X → Type 0) → ((x y : X) → P x → P y → cmp x y ≡ cmp (f x) (f y)) → (xs : List X) → All P xs → IsSorted cmp xs → IsSorted cmp (map f xs)
  sorted_seen f P stays xs each sorted = λ k d low high.
      let long = length-map xs f in
      let behind : k + 1 < length xs = omega (arith, high, long) in
      let here : k < length xs = omega (arith, behind) in
      let x : X = get_or xs k d in
      let y : X = get_or xs (k + 1) d in
      (λ t. is_lt (cmp (get_or-map f xs (k + 1) d d behind t) (get_or-map f xs k d d here t)))
      ∙ ap is_lt (sym (stays y x (each (k + 1) d behind) (each k d here)))
      ∙ sorted k d low behind

-- THE PAIRS OF A PART

module _ (part : List Datum → ℕ) (q : Request) (p : ℕ) where
  abbrev ls : List ℕ
  ls = left_rows part q p

  abbrev rs : List ℕ
  rs = right_rows part q p

  abbrev here : JoinPair → Bool
  here pair = eqb p (part_of_pair (left_part part q) (right_part part q) pair)

  abbrev whole : JoinPair → JoinPair
  whole = whole_pair ls rs

  left_stays : (x y : JoinPair) → IsPairAmong ls rs x → IsPairAmong ls rs y → left_first x y ≡ left_first (whole x) (whole y)
  left_stays x y u v = λ t. ordering_then (row_stays (left_part part q) (height q.left) p x.left y.left u.left v.left t) (row_stays (right_part part q) (height q.right) p x.right y.right u.right v.right t)

  right_stays : (x y : JoinPair) → IsPairAmong ls rs x → IsPairAmong ls rs y → right_first x y ≡ right_first (whole x) (whole y)
  right_stays x y u v = λ t. ordering_then (row_stays (right_part part q) (height q.right) p x.right y.right u.right v.right t) (row_stays (left_part part q) (height q.left) p x.left y.left u.left v.left t)

  module _ (long : length q.left_keys ≡ length q.right_keys) (ps qs : List JoinPair) (all : IsPermutation (listing q) ps) (those : IsPermutation (listing (part_request part q p)) qs) where
    among : All (IsPairAmong ls rs) qs
    among = All-permutation (IsPairAmong ls rs) (listing (part_request part q p)) qs those (listed_among part q p)

    -- each pair stands as often in both
    as_often : (test : JoinPair → Bool) → count_by test (map whole qs) ≡ count_by test (filter here ps)
    as_often test =
        let one : JoinPair → ℕ = λ x. cond (test x) 1 0 in
        let kept : JoinPair → ℕ = λ x. cond (here x) (one x) 0 in
        sum_by-IsPermutation one (map whole (listing (part_request part q p))) (map whole qs) (IsPermutation-map whole (listing (part_request part q p)) qs those)
        ∙ ap (sum_by one) (sym (listed_in_part part q p long))
        ∙ sum_by-filter one here (listing q)
        ∙ sym (sum_by-IsPermutation kept (listing q) ps all)
        ∙ sym (sum_by-filter one here ps)

    pub merged : (d : Direction) → d ≢ Free → Ascends d ps → Ascends d qs → filter here ps ≡ map whole qs
    merged Free fixed up ups = absurd (fixed refl)
    merged ByLeft fixed up ups =
        unique left_first left_first_total left_first_same (filter here ps) (map whole qs) (sorted_kept left_first left_first_total here ps up)
        (sorted_seen left_first whole (IsPairAmong ls rs) left_stays qs among ups) as_often
    merged ByRight fixed up ups =
        unique right_first right_first_total right_first_same (filter here ps) (map whole qs) (sorted_kept right_first right_first_total here ps up)
        (sorted_seen right_first whole (IsPairAmong ls rs) right_stays qs among ups) as_often
