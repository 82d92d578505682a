-- The right rows that are found for a left row, as a loop reads them.
use Rattle.std.proofs.Common.{◌≡◌, ℕ, ◌+◌, ◌<◌, ◌≤◌, Bool, true, false, not, ◌||◌, cond, nat_eq, nat_lt, List, [], ◌∷◌, ◌++◌, length, get_or, map, ap, sym, ◌∙◌, subst, arith, refl, Some, length-append, append_assoc}
use Rattle.std.specs.Prelude.{All, filter}
use Rattle.std.specs.Borrow.{Bor}
use Rattle.std.specs.List.{list_any}
use Rattle.std.proofs.lemmas.Bool.{lt-ltb}
use Rattle.std.proofs.lemmas.List.{length-map, get_or_default}
use Rattle.std.proofs.lemmas.List.Elements.{All-filter}
use Rattle.std.proofs.lemmas.List.Filters.{length-filter_both}
use Rattle.std.proofs.lemmas.List.Folds.{list_any-append}
use Rattle.std.proofs.lemmas.List.FromFn.{length-range_with_len}
use Rattle.tb_value.specs.declared.index.JoinPair.{JoinPair}
use Rattle.tb_value.specs.declared.error.ComputeCause.TheVariants.{TooManyRows}
use Rattle.tb_value.specs.declared.error.PolarsError.TheVariants.{ComputeError}
use Rattle.tb_value.specs.declared.limits.TheConstants.{MAX_ROWS}
use Rattle.tb_value.specs.Promise.Pairs.{row_numbers, both, matched_pairs, left_unmet, right_unmet}
use Rattle.tb_value.specs.Promise.Refusals.{when}
use Rattle.tb_value.proofs.RowNumbers.{matched_more, row_numbers_more, rows_below}
use Rattle.tb_build.proofs.Lists.{flat_map-before, get_or-map_any}
use Rattle.tb_frame.specs.declared.args.JoinType.{JoinType}
use Rattle.tb_frame.specs.declared.args.JoinType.TheVariants.{Inner, Left, Right, Full, Semi, Anti}
use Rattle.tb_frame.specs.Promise.Join.{Request, listing_of, matches}
use Rattle.tb_frame.specs.Promise.Refusal.{is_validated, too_many_rows}
use Rattle.tb_frame.specs.Promise.Table.{height}
use Rattle.tb_hash.proofs.Listed.{found}
use Rattle.tb_alone.specs.Found.{AreFound, AreMarked}

or_false : (b : Bool) → (b || false) ≡ b
or_false true = refl
or_false false = refl

module _ (q : Request) (rows : List (Bor (List ℕ))) (are : AreFound q (map (λ (r : Bor (List ℕ)). r.now) rows)) where
  pub found_many : length rows ≡ height q.left
  found_many = sym (length-map rows (λ (r : Bor (List ℕ)). r.now)) ∙ are.count

  module _ (i : ℕ) (low : i < height q.left) (d : Bor (List ℕ)) where
    pub found_here : (get_or rows i d).now ≡ filter (matches q i) (row_numbers (height q.right))
    found_here =
        sym (get_or-map_any (λ (r : Bor (List ℕ)). r.now) rows i d)
        ∙ get_or_default (map (λ (r : Bor (List ℕ)). r.now) rows) i d.now [] (omega (arith, low, are.count)) ∙ are.each i low

    pub found_below : All (λ row. row < 4294967295) (get_or rows i d).now
    found_below =
        let few = are.few in
        subst (λ (xs : List ℕ). All (λ row. row < 4294967295) xs) (sym found_here)
        (All-filter (matches q i) (λ row. row < 4294967295) (row_numbers (height q.right))
        (λ k e under. let here = rows_below (height q.right) k e under in omega (arith, here, few)))

    pub found_few : length (get_or rows i d).now ≤ 4294967294
    found_few =
        let js = row_numbers (height q.right) in
        let parts = length-filter_both (matches q i) (λ j. not (matches q i j)) (λ j. refl) js in
        omega (arith, parts, length-range_with_len 0 (height q.right), ap (λ (xs : List ℕ). length xs) found_here, are.few)

    pub found_rows : All (λ row. row < height q.right) (get_or rows i d).now
    found_rows =
        subst (λ (xs : List ℕ). All (λ row. row < height q.right) xs) (sym found_here)
        (All-filter (matches q i) (λ row. row < height q.right) (row_numbers (height q.right)) (rows_below (height q.right)))

-- rows are kept where one passes
pub any_kept : (p : ℕ → Bool) (js : List ℕ) → nat_lt 0 (length (filter p js)) ≡ list_any p js
any_kept p [] = refl
any_kept p (j ∷ js) = at (p j) (any_kept p js)
  where
    at : (b : Bool) → nat_lt 0 (length (filter p js)) ≡ list_any p js → nat_lt 0 (length (cond b (j ∷ filter p js) (filter p js))) ≡ (b || list_any p js)
    at true e = lt-ltb 0 (length (j ∷ filter p js)) (omega arith)
    at false e = e

-- THE MARKED ROWS

-- the rows that one left row more matches are marked too
pub marked_more : (m : ℕ → ℕ → Bool) (n r : ℕ) (old new : List Bool) (here : List ℕ) → here ≡ filter (m n) (row_numbers r) → AreMarked m n r old → length new ≡ length old
    → ((k : ℕ) → k < length old → get_or new k false ≡ (get_or old k false || list_any (nat_eq k) here)) → AreMarked m (n + 1) r new
marked_more m n r old new here is was long marks = record {
  count = long ∙ was.count;
  each = λ j low.
      marks j (omega (arith, low, was.count))
      ∙ (λ t. was.each j low t || list_any (nat_eq j) (is t))
      ∙ ap (λ (b : Bool). list_any (λ i. m i j) (row_numbers n) || b) (found (m n) j r low ∙ sym (or_false (m n j)))
      ∙ sym (ap (list_any (λ i. m i j)) (row_numbers_more n) ∙ list_any-append (λ i. m i j) (row_numbers n) (n ∷ []));
}

-- HOW MANY

module _ (r : ℕ) (m : ℕ → ℕ → Bool) where
  -- with one left row more
  pub matched_count : (n : ℕ) → length (matched_pairs (n + 1) r m) ≡ length (matched_pairs n r m) + length (filter (m n) (row_numbers r))
  matched_count n =
      ap (λ (ps : List JoinPair). length ps) (matched_more n r m)
      ∙ length-append (matched_pairs n r m) (map (both n) (filter (m n) (row_numbers r)))
      ∙ ap (λ (k : ℕ). length (matched_pairs n r m) + k) (length-map (filter (m n) (row_numbers r)) (both n))

  -- the pairs of some left rows are no more than those of all
  pub matched_grow : (n l : ℕ) → n ≤ l → length (matched_pairs n r m) ≤ length (matched_pairs l r m)
  matched_grow n l le = flat_map-before (λ i. map (both i) (filter (m i) (row_numbers r))) l n le

  -- and no more than are listed
  pub matched_listed : (how : JoinType) (l n : ℕ) → is_validated how ≡ true → n < length (matched_pairs l r m) → n < length (listing_of how l r m)
  matched_listed Inner l n v h = h
  matched_listed Left l n v h = let s = length-append (matched_pairs l r m) (left_unmet l r m) in omega (arith, h, s)
  matched_listed Right l n v h = let s = length-append (matched_pairs l r m) (right_unmet l r m) in omega (arith, h, s)
  matched_listed Full l n v h =
      let s = length-append (matched_pairs l r m) (left_unmet l r m ++ right_unmet l r m) in
      let t = append_assoc (matched_pairs l r m) (left_unmet l r m) (right_unmet l r m) in
      omega (arith, h, s, ap (λ (ps : List JoinPair). length ps) t)
  matched_listed Semi l n v h = absurd (cc)
  matched_listed Anti l n v h = absurd (cc)

-- pairs of two rows that are too many are too many pairs
pub too_many_listed : (q : Request) → is_validated q.args.how ≡ true → MAX_ROWS < length (matched_pairs (height q.left) (height q.right) (matches q)) → too_many_rows q ≡ Some (ComputeError TooManyRows)
too_many_listed q v h =
    ap (λ (b : Bool). when b (ComputeError TooManyRows))
    (lt-ltb MAX_ROWS (length (listing_of q.args.how (height q.left) (height q.right) (matches q))) (matched_listed (height q.right) (matches q) q.args.how (height q.left) MAX_ROWS v h))
