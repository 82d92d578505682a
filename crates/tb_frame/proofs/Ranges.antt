-- The pairs of a listing, ordered and cut, are pairs of rows that there are.
use Rattle.std.proofs.Common.{◌≡◌, ℕ, ◌+◌, ◌<◌, Bool, List, [], ◌∷◌, ◌++◌, length, map, sym, subst, Option, Some, None}
use Rattle.std.specs.Prelude.{All, filter, not, ℤ}
use Rattle.std.specs.List.{flat_map, list_any, enumerate_from}
use Rattle.std.proofs.lemmas.List.Elements.{All-nil, All-cons, All-head, All-tail, All-append, All-weaker, All-filter, All-map}
use Rattle.std.proofs.lemmas.List.Sorted.{All-permutation}
use Rattle.tb_value.specs.declared.index.JoinPair.{JoinPair}
use Rattle.tb_value.proofs.RowNumbers.{rows_below}
use Rattle.tb_chunk.specs.Rows.{IsRowOf}
use Rattle.tb_frame.specs.declared.args.JoinType.{JoinType}
use Rattle.tb_frame.specs.declared.args.JoinType.TheVariants.{Inner, Left, Right, Full, Semi, Anti}
use Rattle.tb_frame.specs.declared.args.MaintainOrderJoin.{MaintainOrderJoin}
use Rattle.tb_frame.specs.Promise.Table.{TableColumn, Table, height, IsTable}
use Rattle.tb_value.specs.Promise.Pairs.{row_numbers, both, left_only, right_only, matched_pairs, left_met, left_unmet, right_unmet}
use Rattle.tb_frame.specs.Promise.Join.{listing_of, in_slice, cut}
use Rattle.tb_frame.specs.Answer.{IsPairOf, IsListed, AreLeftRows, AreRightRows}

All-flat_map : {X A : Type 0} (P : A → Type 0) (f : X → List A) (xs : List X) → All (λ x. All P (f x)) xs → All P (flat_map f xs)
All-flat_map P f [] h = All-nil P
All-flat_map P f (x ∷ xs) h = All-append P (f x) (flat_map f xs) (All-head (λ y. All P (f y)) x xs h) (All-flat_map P f xs (All-tail (λ y. All P (f y)) x xs h))

matched_rows : (l r : ℕ) (m : ℕ → ℕ → Bool) → All (IsPairOf l r) (matched_pairs l r m)
matched_rows l r m =
    let row : (i : ℕ) → i < l → All (IsPairOf l r) (map (both i) (filter (m i) (row_numbers r))) = λ i low.
    All-map (IsPairOf l r) (both i) (filter (m i) (row_numbers r)) (All-filter (m i) (λ j. IsPairOf l r (both i j)) (row_numbers r) (All-weaker (λ j. j < r) (λ j. IsPairOf l r (both i j)) (λ j in_r. (low, in_r)) (row_numbers r) (rows_below r))) in
    All-flat_map (IsPairOf l r) (λ i. map (both i) (filter (m i) (row_numbers r))) (row_numbers l) (All-weaker (λ i. i < l) (λ i. All (IsPairOf l r) (map (both i) (filter (m i) (row_numbers r)))) row (row_numbers l) (rows_below l))

alone_rows : (l r : ℕ) (p : ℕ → Bool) → All (IsPairOf l r) (map left_only (filter p (row_numbers l)))
alone_rows l r p = All-map (IsPairOf l r) left_only (filter p (row_numbers l)) (All-filter p (λ i. IsPairOf l r (left_only i)) (row_numbers l) (All-weaker (λ i. i < l) (λ i. IsPairOf l r (left_only i)) (λ i low. (low, tt)) (row_numbers l) (rows_below l)))

right_rows_alone : (l r : ℕ) (p : ℕ → Bool) → All (IsPairOf l r) (map right_only (filter p (row_numbers r)))
right_rows_alone l r p = All-map (IsPairOf l r) right_only (filter p (row_numbers r)) (All-filter p (λ j. IsPairOf l r (right_only j)) (row_numbers r) (All-weaker (λ j. j < r) (λ j. IsPairOf l r (right_only j)) (λ j low. (tt, low)) (row_numbers r) (rows_below r)))

met_rows : (l r : ℕ) (m : ℕ → ℕ → Bool) → All (IsPairOf l r) (left_met l r m)
met_rows l r m = alone_rows l r (λ i. list_any (m i) (row_numbers r))

unmet_rows : (l r : ℕ) (m : ℕ → ℕ → Bool) → All (IsPairOf l r) (left_unmet l r m)
unmet_rows l r m = alone_rows l r (λ i. not (list_any (m i) (row_numbers r)))

right_unmet_rows : (l r : ℕ) (m : ℕ → ℕ → Bool) → All (IsPairOf l r) (right_unmet l r m)
right_unmet_rows l r m = right_rows_alone l r (λ j. not (list_any (λ i. m i j) (row_numbers l)))

pub listing_rows : (how : JoinType) (l r : ℕ) (m : ℕ → ℕ → Bool) → All (IsPairOf l r) (listing_of how l r m)
listing_rows Inner l r m = matched_rows l r m
listing_rows Left l r m = All-append (IsPairOf l r) (matched_pairs l r m) (left_unmet l r m) (matched_rows l r m) (unmet_rows l r m)
listing_rows Right l r m = All-append (IsPairOf l r) (matched_pairs l r m) (right_unmet l r m) (matched_rows l r m) (right_unmet_rows l r m)
listing_rows Full l r m = All-append (IsPairOf l r) (matched_pairs l r m ++ left_unmet l r m) (right_unmet l r m) (All-append (IsPairOf l r) (matched_pairs l r m) (left_unmet l r m) (matched_rows l r m) (unmet_rows l r m)) (right_unmet_rows l r m)
listing_rows Semi l r m = met_rows l r m
listing_rows Anti l r m = unmet_rows l r m

All-enumerate : {X : Type 0} (P : X → Type 0) (n : ℕ) (xs : List X) → All P xs → All (λ (x : ℕ × X). P x.1) (enumerate_from n xs)
All-enumerate {X} P n [] h = All-nil (λ (x : ℕ × X). P x.1)
All-enumerate {X} P n (x ∷ xs) h = All-cons (λ (y : ℕ × X). P y.1) (n, x) (enumerate_from (n + 1) xs) (All-head P x xs h) (All-enumerate P (n + 1) xs (All-tail P x xs h))

pub All-cut : {X : Type 0} (P : X → Type 0) (s : Option (ℤ × ℕ)) (xs : List X) → All P xs → All P (cut s xs)
All-cut P None xs h = h
All-cut {X} P (Some s) xs h = All-map P (λ (x : ℕ × X). x.1) (filter (λ (x : ℕ × X). in_slice (length xs) s.0 s.1 x.0) (enumerate_from 0 xs)) (All-filter (λ (x : ℕ × X). in_slice (length xs) s.0 s.1 x.0) (λ (x : ℕ × X). P x.1) (enumerate_from 0 xs) (All-enumerate P 0 xs h))

pub listed_rows : (how : JoinType) (o : MaintainOrderJoin) (s : Option (ℤ × ℕ)) (l r : ℕ) (m : ℕ → ℕ → Bool) (items : List JoinPair) → IsListed how o s (listing_of how l r m) items → All (IsPairOf l r) items
listed_rows how o s l r m items h = subst (λ (x : List JoinPair). All (IsPairOf l r) x) (sym h.is) (All-cut (IsPairOf l r) s h.pairs (All-permutation (IsPairOf l r) (listing_of how l r m) h.pairs h.ordered.permutation (listing_rows how l r m)))

-- for each column of a table
pub left_rows : (t : Table) (r : ℕ) (items : List JoinPair) → IsTable t → All (IsPairOf (height t) r) items → All (λ (c : TableColumn). AreLeftRows (length c.values) items) t
left_rows t r items table h = All-weaker (λ (c : TableColumn). length c.values ≡ height t) (λ (c : TableColumn). AreLeftRows (length c.values) items) (λ c e. All-weaker (IsPairOf (height t) r) (λ (p : JoinPair). IsRowOf (length c.values) p.left) (λ p in_range. subst (λ (n : ℕ). IsRowOf n p.left) (sym e) in_range.0) items h) t table.one_height

pub right_rows : (t : Table) (l : ℕ) (items : List JoinPair) → IsTable t → All (IsPairOf l (height t)) items → All (λ (c : TableColumn). AreRightRows (length c.values) items) t
right_rows t l items table h = All-weaker (λ (c : TableColumn). length c.values ≡ height t) (λ (c : TableColumn). AreRightRows (length c.values) items) (λ c e. All-weaker (IsPairOf l (height t)) (λ (p : JoinPair). IsRowOf (length c.values) p.right) (λ p in_range. subst (λ (n : ℕ). IsRowOf n p.right) (sym e) in_range.1) items h) t table.one_height
