-- The rows of a Semi or Anti join.
use Rattle.std.proofs.Common.{◌≡◌, ◌<◌, ◌∙◌, ℕ, Bool, true, false, ◌⊎◌, inl, inr, List, [], ◌∷◌, ◌++◌, length, map, refl, ap, sym, subst, append-nil, arith, Option, Some, None}
use Rattle.std.specs.Prelude.{All, IsSorted, filter, unwrap_or, ℤ}
use Rattle.std.proofs.lemmas.List.{nil_from_length}
use Rattle.std.proofs.lemmas.List.Elements.{All-filter}
use Rattle.std.proofs.lemmas.List.Sorted.{IsPermutation-refl}
use Rattle.tb_value.specs.Promise.Pairs.{left_first, left_only, row_numbers}
use Rattle.tb_value.specs.declared.index.JoinPair.{JoinPair}
use Rattle.tb_value.specs.declared.sorted.IsSorted.TheVariants.{Ascending}
use Rattle.tb_value.proofs.Ascending.{kept_ascend, left_met-sorted, left_unmet-sorted, pairs_from-Ascends_by}
use Rattle.tb_value.proofs.Loops.{map-map}
use Rattle.tb_chunk.specs.Promise.Col.{Col, values}
use Rattle.tb_chunk.specs.Rows.{value_or_null}
use Rattle.tb_chunk.specs.ViewArrays.{view_or_none, joined_view_array}
use Rattle.tb_frame.specs.Answer.{ArePairsOf, fill}
use Rattle.tb_frame.specs.Frame.{opt_taken_rows, taken_rows, without_names}
use Rattle.tb_frame.specs.Promise.Join.{IsAnswer, IsOrdered, Request, cut, listing, out}
use Rattle.tb_frame.specs.Promise.Table.{IsTable, Table, height, plain_column, table_of}
use Rattle.tb_frame.specs.declared.args.MaintainOrderJoin.TheVariants as order
use Rattle.tb_frame.proofs.Assembled.{makes_answer}
use Rattle.tb_value.proofs.RowNumbers.{rows_below}
use Rattle.tb_frame.proofs.Taking.{IsTable-taken}
use Rattle.tb_gather.specs.Gathered.{gathered_rows}
use Rattle.tb_keys.specs.Promise.Listing.{value_listing}
use Rattle.tb_join.proofs.AnswerMade.{columns-are}
use Rattle.tb_join.proofs.KeptColumns.{without_names_none}
use Rattle.tb_pairs.proofs.Requested.{columns_listed, one_listed}
use Rattle.tb_dispatch.specs.Given.{by_match, semi_or_anti}
use Rattle.tb_dispatch.specs.Rows.{Rise}
use Rattle.tb_dispatch.proofs.Cuts.{cut-map, few_risen}

without_flags : (rows : List (Option ℕ)) (cs : List Col) → table_of (map (opt_taken_rows rows) cs) ≡ table_of (map (gathered_rows rows Ascending) cs)
without_flags rows [] = refl
without_flags rows (c ∷ cs) = ap (λ (t : Table). plain_column (opt_taken_rows rows c) ∷ t) (without_flags rows cs)

cut_none : (s : Option (ℤ × ℕ)) → cut s (map left_only []) ≡ []
cut_none None = refl
cut_none (Some s) = refl

-- the numbers of rows alone
numbers : (rows : List ℕ) → map (λ (p : JoinPair). unwrap_or p.left 0) (map left_only rows) ≡ rows
numbers [] = refl
numbers (i ∷ rows) = ap (λ (is : List ℕ). i ∷ is) (numbers rows)

same_numbers : (rows is : List ℕ) → map left_only rows ≡ map left_only is → rows ≡ is
same_numbers rows is e = sym (numbers rows) ∙ ap (map (λ (p : JoinPair). unwrap_or p.left 0)) e ∙ numbers is

taken-is : (rows : List ℕ) (c : Col) → taken_rows rows c ≡ opt_taken_rows (map (λ (i : ℕ). Some i) rows) c
taken-is rows c =
    let w = joined_view_array c.view_arrays in
    let views = sym (map-map (view_or_none w.views) (λ (i : ℕ). Some i) rows) in
    λ t. record c {
      chunks = sym (map-map (value_or_null (values c)) (λ (i : ℕ). Some i) rows) t ∷ [];
      flag = (taken_rows rows c).flag;
      view_arrays = record { views = views t; buffers = w.buffers } ∷ [];
    }

module _ (nulls anti : Bool) (l r : Col) (rows : List ℕ) (is : map left_only rows ≡ value_listing nulls (semi_or_anti anti) (values l) (values r)) where
  -- those of the left key column that pass a test
  kept : (p : ℕ → Bool) × (rows ≡ filter p (row_numbers (length (values l))))
  kept = at anti is
    where
      at : (b : Bool) → map left_only rows ≡ value_listing nulls (semi_or_anti b) (values l) (values r) → (p : ℕ → Bool) × (rows ≡ filter p (row_numbers (length (values l))))
      at true e = (_, same_numbers rows _ e)
      at false e = (_, same_numbers rows _ e)

  pub rise : Rise rows
  rise = subst Rise (sym kept.1) (pairs_from-Ascends_by ◌<◌ (filter kept.0 (row_numbers (length (values l)))) (kept_ascend kept.0 0 (length (values l))))

  pub within : (n : ℕ) → length (values l) ≡ n → All (λ i. i < n) rows
  within n e =
      subst (λ (k : ℕ). All (λ i. i < k) rows) e
      (subst (λ (xs : List ℕ). All (λ i. i < length (values l)) xs) (sym kept.1) (All-filter kept.0 (λ i. i < length (values l)) (row_numbers (length (values l))) (rows_below (length (values l)))))

  module _ (s : Option (ℤ × ℕ)) (left : List Col) (table : IsTable (table_of left)) (high : length (values l) ≡ height (table_of left)) where
    abbrev q : Request
    q = by_match anti nulls s left l r

    abbrev items : List JoinPair
    items = cut s (map left_only rows)

    listing_is : map left_only rows ≡ listing q
    listing_is = is ∙ one_listed (λ p. nulls) (semi_or_anti anti) (l ∷ []) (r ∷ []) l r refl refl ∙ columns_listed (λ p. nulls) (semi_or_anti anti) (l ∷ []) (r ∷ []) (height (table_of left)) (length (values r)) refl high refl

    ordered : IsOrdered (semi_or_anti anti) order.None (map left_only rows) (listing q)
    ordered = subst (λ (ps : List JoinPair). IsOrdered (semi_or_anti anti) order.None (map left_only rows) ps) listing_is (at anti is)
      where
        at : (b : Bool) → map left_only rows ≡ value_listing nulls (semi_or_anti b) (values l) (values r) → IsOrdered (semi_or_anti b) order.None (map left_only rows) (map left_only rows)
        at true e = record { permutation = IsPermutation-refl (map left_only rows); ascends = subst (IsSorted left_first) (sym e) (left_unmet-sorted (length (values l)) (length (values r)) _) }
        at false e = record { permutation = IsPermutation-refl (map left_only rows); ascends = subst (IsSorted left_first) (sym e) (left_met-sorted (length (values l)) (length (values r)) _) }

    listed : ArePairsOf q items
    listed = record { pairs = map left_only rows; ordered = ordered; is = refl }

    lefts : map (λ (p : JoinPair). p.left) items ≡ map (λ (i : ℕ). Some i) (cut s rows)
    lefts = ap (map (λ (p : JoinPair). p.left)) (cut-map left_only s rows) ∙ map-map (λ (p : JoinPair). p.left) left_only (cut s rows)

    made : map (taken_rows (cut s rows)) left ≡ map (opt_taken_rows (map (λ (p : JoinPair). p.left) items)) (without_names [] left)
    made = (λ t. map (λ (c : Col). taken-is (cut s rows) c t) left) ∙ (λ t. map (opt_taken_rows (sym lefts t)) (sym (without_names_none left) t))

    -- a join gathers the same rows, which ascend, with flags that a table doesn't have
    gathered : List Col
    gathered = map (gathered_rows (map (λ (p : JoinPair). p.left) items) Ascending) (without_names [] left)

    same : table_of (map (taken_rows (cut s rows)) left) ≡ table_of (gathered ++ [])
    unfolding gathered
    same = ap table_of made ∙ without_flags (map (λ (p : JoinPair). p.left) items) (without_names [] left) ∙ ap table_of (sym (append-nil gathered))

    columns : table_of (map (taken_rows (cut s rows)) left) ≡ map (fill items) (out q)
    unfolding gathered
    columns = at anti
      where
        at : (b : Bool) → table_of (map (taken_rows (cut s rows)) left) ≡ map (fill items) (out (by_match b nulls s left l r))
        at true = same ∙ columns-are (by_match true nulls s left l r) left (r ∷ []) items refl refl refl
        at false = same ∙ columns-are (by_match false nulls s left l r) left (r ∷ []) items refl refl refl

    pub alone_answer : IsAnswer q (table_of (map (taken_rows (cut s rows)) left))
    alone_answer = makes_answer q items (table_of (map (taken_rows (cut s rows)) left)) columns (at left table high) (IsTable-taken (cut s rows) left table) listed
      where
        none : (n : ℕ) → length (values l) ≡ n → n ≡ 0 → rows ≡ []
        none n e zero = nil_from_length rows (let few = few_risen n rows rise (within n e) in omega (arith, few, zero))

        at : (cs : List Col) → IsTable (table_of cs) → length (values l) ≡ height (table_of cs) → (0 < length (out (by_match anti nulls s cs l r))) ⊎ (items ≡ [])
        at [] t e = inr (ap (λ (xs : List ℕ). cut s (map left_only xs)) (none 0 e refl) ∙ cut_none s)
        at (c ∷ cs) t e = inl (first anti)
          where
            first : (b : Bool) → 0 < length (out (by_match b nulls s (c ∷ cs) l r))
            first true = omega arith
            first false = omega arith
