-- The listing of a part, and those of all parts.
use Rattle.std.proofs.Common.{◌≡◌, ℕ, ◌<◌, Bool, true, false, cond, eqb, not, List, [], ◌++◌, length, get_or, map, refl, ap, sym, ◌∙◌, arith}
use Rattle.std.specs.Prelude.{All, ◌&&◌, filter, IsPermutation}
use Rattle.std.specs.List.{flat_map, list_any}
use Rattle.std.proofs.lemmas.Bool.{eq-eqb}
use Rattle.std.proofs.lemmas.Bool.Decides.{nat_tests}
use Rattle.std.proofs.lemmas.List.{map-append}
use Rattle.std.proofs.lemmas.List.Elements.{All-append, All-filter, All-map, filter-append, filter_agree}
use Rattle.std.proofs.lemmas.List.Folds.{flat_map-map}
use Rattle.tb_value.specs.Promise.Pairs.{row_numbers, both, left_only, right_only, left_unmet, matched_pairs, right_unmet}
use Rattle.tb_value.specs.declared.index.JoinPair.{JoinPair}
use Rattle.tb_value.proofs.Ascending.{kept_same}
use Rattle.tb_value.proofs.Kept.{filter-map}
use Rattle.tb_value.proofs.Loops.{flat_map_agree, map-flat_map, map-map, permuted}
use Rattle.tb_value.proofs.RowNumbers.{rows_below}
use Rattle.tb_build.proofs.Lists.{filter-all, filter-flat_map, filter-never, flat_map-agree_below}
use Rattle.tb_build.proofs.PackedLists.{filter-implied_at}
use Rattle.tb_frame.specs.declared.args.JoinType.{JoinType}
use Rattle.tb_frame.specs.declared.args.JoinType.TheVariants.{Inner, Left, Right, Full, Semi, Anti}
use Rattle.tb_frame.specs.Promise.Join.{listing_of}
use Rattle.tb_parts.specs.Laws.{MeetInParts}
use Rattle.tb_parts.specs.Promise.Parts.{listing_among, part_of_pair, rows_in, whole_pair, whole_row}
use Rattle.tb_parts.proofs.Lists.{All-flat_map_each, has_any, any-kept, any-map, by_places, each_row, filter-both, flat_map-filter, tests_turned}
use Rattle.tb_parts.proofs.Spread.{spread, spread_is}

-- ROWS OF ONE SIDE

module _ (l r : ℕ) (m : ℕ → ℕ → Bool) (left right : ℕ → ℕ) (meet : MeetInParts l r m left right) (p : ℕ) where
  abbrev ls : List ℕ
  ls = rows_in left l p

  abbrev rs : List ℕ
  rs = rows_in right r p

  -- a row of the part has its matches there
  pub matches_stay : (i : ℕ) → i < l → p ≡ left i → filter (m i) rs ≡ filter (m i) (row_numbers r)
  matches_stay i low e = filter-implied_at (λ j. eqb p (right j)) (m i) (row_numbers r) (λ k d under h.
      eq-eqb p (right (get_or (row_numbers r) k d)) (e ∙ meet i (get_or (row_numbers r) k d) low (rows_below r k d under) h))

  pub any_stays : (i : ℕ) → i < l → p ≡ left i → list_any (m i) rs ≡ list_any (m i) (row_numbers r)
  any_stays i low e = any-kept (m i) rs ∙ ap (λ (xs : List ℕ). has_any xs) (matches_stay i low e) ∙ sym (any-kept (m i) (row_numbers r))

  -- the rows of the part that are met, or are not
  pub rows_stay : (h : Bool → Bool) → filter (λ i. eqb p (left i)) (filter (λ i. h (list_any (m i) (row_numbers r))) (row_numbers l))
      ≡ map (whole_row ls) (filter (λ a. h (list_any (λ b. m (whole_row ls a) (whole_row rs b)) (row_numbers (length rs)))) (row_numbers (length ls)))
  rows_stay h =
      let here : ℕ → Bool = λ i. eqb p (left i) in
      let of_all : ℕ → Bool = λ i. h (list_any (m i) (row_numbers r)) in
      let of_part : ℕ → Bool = λ i. h (list_any (m i) rs) in
      let alike : (i : ℕ) → i < l → eqb p (left i) ≡ true → of_all i ≡ of_part i = λ i low e. ap h (sym (any_stays i low (grind (arith, nat_tests, e)))) in
      let by_row : (a : ℕ) → of_part (whole_row ls a) ≡ h (list_any (λ b. m (whole_row ls a) (whole_row rs b)) (row_numbers (length rs)))
      = λ a. ap h (ap (list_any (m (whole_row ls a))) (sym (by_places rs)) ∙ any-map (m (whole_row ls a)) (whole_row rs) (row_numbers (length rs))) in
      sym (filter-both of_all here (row_numbers l))
      ∙ kept_same (λ i. of_all i && here i) (λ i. here i && of_part i) l (λ i low. tests_turned (of_all i) (here i) (of_part i) (alike i low))
      ∙ filter-both here of_part (row_numbers l)
      ∙ ap (filter of_part) (sym (by_places ls))
      ∙ filter-map (whole_row ls) of_part (row_numbers (length ls))
      ∙ ap (map (whole_row ls)) (filter_agree (λ a. of_part (whole_row ls a)) (λ a. h (list_any (λ b. m (whole_row ls a) (whole_row rs b)) (row_numbers (length rs)))) by_row (row_numbers (length ls)))

-- THE LISTING OF A PART

module _ (l r : ℕ) (m : ℕ → ℕ → Bool) (left right : ℕ → ℕ) (meet : MeetInParts l r m left right) (p : ℕ) where
  abbrev lefts : List ℕ
  lefts = rows_in left l p

  abbrev rights : List ℕ
  rights = rows_in right r p

  abbrev here : JoinPair → Bool
  here pair = eqb p (part_of_pair left right pair)

  abbrev whole : JoinPair → JoinPair
  whole = whole_pair lefts rights

  abbrev among : ℕ → ℕ → Bool
  among a b = m (whole_row lefts a) (whole_row rights b)

  abbrev all_of : ℕ → List JoinPair
  all_of i = map (both i) (filter (m i) (row_numbers r))

  abbrev those_of : ℕ → List JoinPair
  those_of i = map (both i) (filter (m i) rights)

  row_stays : (i : ℕ) → i < l → filter here (all_of i) ≡ cond (eqb p (left i)) (those_of i) []
  row_stays i low = filter-map (both i) here (filter (m i) (row_numbers r)) ∙ at (eqb p (left i)) refl
    where
      at : (b : Bool) → eqb p (left i) ≡ b → map (both i) (filter (λ _. b) (filter (m i) (row_numbers r))) ≡ cond b (those_of i) []
      at true e = ap (map (both i)) (filter-all (λ _. true) (λ _. refl) (filter (m i) (row_numbers r)) ∙ sym (matches_stay l r m left right meet p i low (grind (arith, nat_tests, e))))
      at false e = ap (map (both i)) (filter-never (filter (m i) (row_numbers r)))

  by_row : (a : ℕ) → map whole (map (both a) (filter (among a) (row_numbers (length rights)))) ≡ those_of (whole_row lefts a)
  by_row a =
      let found : List ℕ = filter (among a) (row_numbers (length rights)) in
      map-map whole (both a) found
      ∙ sym (map-map (both (whole_row lefts a)) (whole_row rights) found)
      ∙ ap (map (both (whole_row lefts a))) (sym (filter-map (whole_row rights) (m (whole_row lefts a)) (row_numbers (length rights))) ∙ ap (filter (m (whole_row lefts a))) (by_places rights))

  met : filter here (matched_pairs l r m) ≡ map whole (matched_pairs (length lefts) (length rights) among)
  met =
      filter-flat_map here all_of (row_numbers l)
      ∙ flat_map-agree_below (λ i. filter here (all_of i)) (λ i. cond (eqb p (left i)) (those_of i) []) l row_stays
      ∙ sym (flat_map-filter those_of (λ i. eqb p (left i)) (row_numbers l))
      ∙ ap (flat_map those_of) (sym (by_places lefts))
      ∙ flat_map-map those_of (whole_row lefts) (row_numbers (length lefts))
      ∙ sym (flat_map_agree (λ a. map whole (map (both a) (filter (among a) (row_numbers (length rights))))) (λ a. those_of (whole_row lefts a)) by_row (row_numbers (length lefts)))
      ∙ sym (map-flat_map whole (λ a. map (both a) (filter (among a) (row_numbers (length rights)))) (row_numbers (length lefts)))

  alone : (h : Bool → Bool) → filter here (map left_only (filter (λ i. h (list_any (m i) (row_numbers r))) (row_numbers l)))
      ≡ map whole (map left_only (filter (λ a. h (list_any (among a) (row_numbers (length rights)))) (row_numbers (length lefts))))
  alone h =
      let found : List ℕ = filter (λ a. h (list_any (among a) (row_numbers (length rights)))) (row_numbers (length lefts)) in
      filter-map left_only here (filter (λ i. h (list_any (m i) (row_numbers r))) (row_numbers l))
      ∙ ap (map left_only) (rows_stay l r m left right meet p h)
      ∙ map-map left_only (whole_row lefts) found
      ∙ sym (map-map whole left_only found)

  right_alone : filter here (right_unmet l r m) ≡ map whole (right_unmet (length lefts) (length rights) among)
  right_alone =
      let found : List ℕ = filter (λ b. not (list_any (λ a. among a b) (row_numbers (length lefts)))) (row_numbers (length rights)) in
      filter-map right_only here (filter (λ j. not (list_any (λ i. m i j) (row_numbers l))) (row_numbers r))
      ∙ ap (map right_only) (rows_stay r l (λ j i. m i j) right left (λ j i low under h. sym (meet i j under low h)) p not)
      ∙ map-map right_only (whole_row rights) found
      ∙ sym (map-map whole right_only found)

  two : (xs ys us vs : List JoinPair) → filter here xs ≡ map whole us → filter here ys ≡ map whole vs → filter here (xs ++ ys) ≡ map whole (us ++ vs)
  two xs ys us vs d e = filter-append here xs ys ∙ (λ t. d t ++ e t) ∙ sym (map-append whole us vs)

  pub in_part : (how : JoinType) → filter here (listing_of how l r m) ≡ listing_among how m lefts rights
  in_part Inner = met
  in_part Left = two (matched_pairs l r m) (left_unmet l r m) (matched_pairs (length lefts) (length rights) among) (left_unmet (length lefts) (length rights) among) met (alone not)
  in_part Right = two (matched_pairs l r m) (right_unmet l r m) (matched_pairs (length lefts) (length rights) among) (right_unmet (length lefts) (length rights) among) met right_alone
  in_part Full = two (matched_pairs l r m ++ left_unmet l r m) (right_unmet l r m)
      (matched_pairs (length lefts) (length rights) among ++ left_unmet (length lefts) (length rights) among) (right_unmet (length lefts) (length rights) among)
      (two (matched_pairs l r m) (left_unmet l r m) (matched_pairs (length lefts) (length rights) among) (left_unmet (length lefts) (length rights) among) met (alone not))
      right_alone
  in_part Semi = alone (λ b. b)
  in_part Anti = alone not

-- WHAT HOLDS OF EACH PAIR OF A LISTING

module _ (P : JoinPair → Type 0) (l r : ℕ) (m : ℕ → ℕ → Bool) (on_both : (i j : ℕ) → i < l → j < r → P (both i j)) (on_left : (i : ℕ) → i < l → P (left_only i)) (on_right : (j : ℕ) → j < r → P (right_only j)) where
  met_have : All P (matched_pairs l r m)
  met_have = All-flat_map_each P (λ i. map (both i) (filter (m i) (row_numbers r))) (row_numbers l)
      (each_row (λ i. All P (map (both i) (filter (m i) (row_numbers r)))) l (λ i low.
      All-map P (both i) (filter (m i) (row_numbers r)) (All-filter (m i) (λ j. P (both i j)) (row_numbers r) (each_row (λ j. P (both i j)) r (λ j under. on_both i j low under)))))

  left_have : (test : ℕ → Bool) → All P (map left_only (filter test (row_numbers l)))
  left_have test = All-map P left_only (filter test (row_numbers l)) (All-filter test (λ i. P (left_only i)) (row_numbers l) (each_row (λ i. P (left_only i)) l on_left))

  right_have : (test : ℕ → Bool) → All P (map right_only (filter test (row_numbers r)))
  right_have test = All-map P right_only (filter test (row_numbers r)) (All-filter test (λ j. P (right_only j)) (row_numbers r) (each_row (λ j. P (right_only j)) r on_right))

  pub listed_have : (how : JoinType) → All P (listing_of how l r m)
  listed_have Inner = met_have
  listed_have Left = All-append P (matched_pairs l r m) (left_unmet l r m) met_have (left_have (λ i. not (list_any (m i) (row_numbers r))))
  listed_have Right = All-append P (matched_pairs l r m) (right_unmet l r m) met_have (right_have (λ j. not (list_any (λ i. m i j) (row_numbers l))))
  listed_have Full = All-append P (matched_pairs l r m ++ left_unmet l r m) (right_unmet l r m)
      (All-append P (matched_pairs l r m) (left_unmet l r m) met_have (left_have (λ i. not (list_any (m i) (row_numbers r)))))
      (right_have (λ j. not (list_any (λ i. m i j) (row_numbers l))))
  listed_have Semi = left_have (λ i. list_any (m i) (row_numbers r))
  listed_have Anti = left_have (λ i. not (list_any (m i) (row_numbers r)))

-- THE LISTINGS OF ALL PARTS

module _ (l r : ℕ) (m : ℕ → ℕ → Bool) (left right : ℕ → ℕ) (n : ℕ) (low_left : (i : ℕ) → i < l → left i < n) (low_right : (j : ℕ) → j < r → right j < n) where
  pub in_all : MeetInParts l r m left right → (how : JoinType)
      → IsPermutation (listing_of how l r m) (flat_map (λ p. listing_among how m (rows_in left l p) (rows_in right r p)) (row_numbers n))
  in_all meet how =
      let pairs : List JoinPair = listing_of how l r m in
      let part : JoinPair → ℕ = part_of_pair left right in
      permuted pairs (spread part n pairs) (flat_map (λ p. listing_among how m (rows_in left l p) (rows_in right r p)) (row_numbers n))
      (flat_map_agree (λ p. filter (λ pair. eqb p (part pair)) pairs) (λ p. listing_among how m (rows_in left l p) (rows_in right r p)) (λ p. in_part l r m left right meet p how) (row_numbers n))
      (spread_is part n pairs (listed_have (λ pair. part pair < n) l r m (λ i j low under. low_left i low) low_left low_right how))
