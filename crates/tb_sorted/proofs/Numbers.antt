-- Stored keys, their values and the whole numbers that they are.
use Rattle.std.proofs.Common.{◌≡◌, ℕ, zero, suc, ◌+◌, ◌<◌, ◌≤◌, Bool, true, false, cond, ◌||◌, List, [], ◌∷◌, length, get_or, map, refl, sym, ap, ap₂, ◌∙◌, subst, arith, append-nil, ℤ, pos, Option, Some, None, Result}
use Rattle.std.specs.Prelude.{IfOk, IsPermutation, IsSorted}
use Rattle.std.specs.List.{Contains}
use Rattle.std.proofs.lemmas.Option.{none-some}
use Rattle.std.specs.Ordering.{is_lt, int_cmp, int_eq}
use Rattle.std.specs.declared.cmp.Ordering.{Ordering}
use Rattle.std.specs.declared.vec.Vec.{Vec}
use Rattle.std.proofs.lemmas.List.{length-map, get_or-map}
use Rattle.tb_value.specs.Promise.Datum.{Datum, null, int, is_null}
use Rattle.tb_value.specs.Refusals.{Settles}
use Rattle.tb_value.specs.Promise.Same.{agrees}
use Rattle.tb_value.specs.declared.error.PolarsError.{PolarsError}
use Rattle.tb_value.specs.declared.index.JoinPair.{JoinPair}
use Rattle.tb_value.specs.declared.limits.TheConstants.{MAX_ROWS}
use Rattle.tb_chunk.specs.Chunk.{or_null}
use Rattle.tb_chunk.specs.Promise.Col.{concatenation}
use Rattle.tb_cell.specs.Promise.Flag.{datum_cmp, nulls}
use Rattle.tb_frame.specs.declared.args.Direction.{Direction}
use Rattle.tb_frame.specs.declared.args.JoinType.{JoinType}
use Rattle.tb_frame.specs.Promise.Join.{listing_of}
use Rattle.tb_frame.proofs.Listings.{listing-same}
use Rattle.tb_merge.specs.Keys.{keys_match}
use Rattle.tb_merge.specs.Promise.MergedView.{MergedView}
use Rattle.tb_sorted.specs.Promise.Columns.{value_sizes}
use Rattle.tb_keys.specs.Promise.Listing.{value_listing}
use Rattle.tb_sorted.specs.Columns.{AreMergeKeys, DoOthersAscend, MayMerge}
use Rattle.tb_sorted.specs.Promise.Keys.{MergeSizes}
use Rattle.tb_sorted.specs.Keys.{AreListsToMerge, kind_of_merge, number_listing, number_sizes}
use Rattle.tb_keys.specs.Causes.{too_many}
use Rattle.tb_sorted.specs.Listed.{AreKeysMerged, AreValuesMerged, IsMergeWithin}
use Rattle.tb_sorted.specs.Path.{order_after}
use Rattle.tb_sorted.specs.declared.path.SortedFirst.{SortedFirst}
use Rattle.tb_sorted.specs.declared.path.SortedFirst.TheVariants as the

-- what is in order by its images is in order
pub sorted_back : {X Y : Type 0} (f : X → Y) (order : X → X → Ordering) (image : Y → Y → Ordering) → ((x y : X) → image (f x) (f y) ≡ order x y) → (xs : List X) → IsSorted image (map f xs) → IsSorted order xs
sorted_back f order image agree xs s = λ k d from high.
    let long : length (map f xs) ≡ length xs = length-map xs f in
    let next : get_or (map f xs) (k + 1) (f d) ≡ f (get_or xs (k + 1) d) = get_or-map f xs (k + 1) d (f d) (omega arith) in
    let this : get_or (map f xs) k (f d) ≡ f (get_or xs k d) = get_or-map f xs k d (f d) (omega arith) in
    ap is_lt (sym (agree (get_or xs (k + 1) d) (get_or xs k d)) ∙ sym (ap₂ image next this)) ∙ s k (f d) from (omega (arith, long))

-- LISTINGS

or_false : (b : Bool) → (b || false) ≡ b
or_false true = refl
or_false false = refl

-- the listing of values is that of the numbers that they are
pub numbers_listed : (null_matches : Bool) (how : JoinType) (ls rs : List ℤ) → value_listing null_matches how (map int ls) (map int rs) ≡ listing_of how (length ls) (length rs) (keys_match ls rs)
numbers_listed null_matches how ls rs =
    let m : ℕ → ℕ → Bool = λ i j. agrees null_matches (get_or (map int ls) i null) (get_or (map int rs) j null) in
    ◌∙◌ {A = List JoinPair} (λ t. listing_of how (length-map ls int t) (length-map rs int t) m)
    (listing-same how (length ls) (length rs) m (keys_match ls rs)
    (λ i j low under. ◌∙◌ {A = Bool} (λ t. agrees null_matches (get_or-map int ls i (pos 0) null low t) (get_or-map int rs j (pos 0) null under t)) (or_false (int_eq (get_or ls i (pos 0)) (get_or rs j (pos 0))))))

-- CELLS

pub one_list : {X : Type 0} (f : X → List Datum) (xs : List X) (d : X) → length (map f xs) ≡ 1 → concatenation (map f xs) ≡ f (get_or xs 0 d)
one_list f [] d one = absurd (omega arith)
one_list f (x ∷ []) d one = append-nil (f x)
one_list f (x ∷ y ∷ xs) d one = absurd (omega arith)

module _ {N : Type 0} (shows : N → Datum) where
  -- values that are all there
  pub all_shown : (vs : List N) → map (or_null shows) (map Some vs) ≡ map shows vs
  all_shown [] = refl
  all_shown (x ∷ vs) = ap (λ (l : List Datum). shows x ∷ l) (all_shown vs)

  module _ (number : N → ℤ) (law : (x : N) → shows x ≡ int (number x)) where
    -- values show their numbers
    pub shown_numbers : (vs : List N) → map shows vs ≡ map int (map number vs)
    shown_numbers [] = refl
    shown_numbers (x ∷ vs) = λ t. law x t ∷ shown_numbers vs t

    pub numbers_ascend : (vs : List N) → IsSorted datum_cmp (map shows vs) → IsSorted int_cmp (map number vs)
    numbers_ascend vs s = sorted_back int int_cmp datum_cmp (λ x y. refl) (map number vs) (subst (IsSorted datum_cmp) (shown_numbers vs) s)

    -- an absent value is shown as Null
    absent_shown : (cells : List (Option N)) (k : ℕ) → k < length cells → get_or cells k None ≡ None → length (nulls (map (or_null shows) cells)) ≡ 0 → ⊥
    absent_shown [] k low e none = omega (arith, low)
    absent_shown (None ∷ cells) k low e none = omega (arith, none)
    absent_shown (Some x ∷ cells) zero low e none = none-some x (sym e)
    absent_shown (Some x ∷ cells) (suc k) low e none =
        let rest : List Datum = nulls (map (or_null shows) cells) in
        let later : length rest ≡ 0 = ap (λ (v : Datum). length (cond (is_null v) (shows x ∷ rest) rest)) (sym (law x)) ∙ none in
        absent_shown cells k (omega (arith, low)) e later

    pub none_absent : (cells : List (Option N)) → AreMergeKeys (map (or_null shows) cells) → Contains cells None → ⊥
    none_absent cells keys h = absent_shown cells h.0 h.1 h.2 keys.present

-- what was merged of numbers was merged of the values
module _ (us vs : List Datum) (ls rs : List ℤ) (is_left : us ≡ map int ls) (is_right : vs ≡ map int rs) where
  values_listed : (keep : Bool) → number_listing keep ls rs ≡ value_listing false (kind_of_merge keep) us vs
  values_listed keep = sym (◌∙◌ {A = List JoinPair} (λ t. value_listing false (kind_of_merge keep) (is_left t) (is_right t)) (numbers_listed false (kind_of_merge keep) ls rs))

  values_sized : number_sizes ls rs ≡ value_sizes us vs
  values_sized =
      let left : length ls ≡ length us = sym (ap (λ (xs : List Datum). length xs) is_left ∙ length-map ls int) in
      let right : length rs ≡ length vs = sym (ap (λ (xs : List Datum). length xs) is_right ∙ length-map rs int) in
      λ t. record { left_len = left t; right_len = right t; pairs = length (values_listed false t) }

  pub merged_values : {A : Type 0} (order : Direction) (keep : Bool) (answer : Result (Vec JoinPair A × MergedView) PolarsError)
      → AreKeysMerged order keep ls rs answer → AreValuesMerged order keep us vs answer
  merged_values order keep answer h = record {
    settles = subst (λ (ps : List JoinPair). Settles answer (too_many (length ps))) (values_listed keep) h.settles;
    pairs = subst (λ (ps : List JoinPair). IfOk answer (λ x. IsPermutation ps x.0.items)) (values_listed keep) h.pairs;
    ascends = h.ascends;
    merged = subst (λ (s : MergeSizes). IfOk answer (λ x. IsMergeWithin s x.1)) values_sized h.merged;
  }

-- the stored numbers that ascend, by the side that is sorted first
module _ {N : Type 0} (shows : N → Datum) (number : N → ℤ) (law : (x : N) → shows x ≡ int (number x)) (ls rs : List N) (first : SortedFirst) (keep : Bool) (may : MayMerge first keep (map shows ls) (map shows rs)) where
  others_ascend : (here : SortedFirst) → first ≡ here → DoOthersAscend here keep (map shows ls) (map shows rs)
  others_ascend here is = subst (λ (f : SortedFirst). DoOthersAscend f keep (map shows ls) (map shows rs)) is may.ascend

  as_few : (xs : List N) → AreMergeKeys (map shows xs) → length (map number xs) ≤ MAX_ROWS
  as_few xs keys = omega (arith, length-map xs shows, length-map xs number, keys.few)

  pub lists_to_merge : first ≡ the.Neither → AreListsToMerge (map number ls) (map number rs)
  lists_to_merge is = record {
    left_sorted = numbers_ascend shows number law ls (others_ascend the.Neither is).0;
    right_sorted = numbers_ascend shows number law rs (others_ascend the.Neither is).1;
    left_few = as_few ls may.left;
    right_few = as_few rs may.right;
  }

  pub left_ascends : first ≡ the.Right → IsSorted int_cmp (map number ls)
  left_ascends is = numbers_ascend shows number law ls (others_ascend the.Right is)

  pub right_ascends : first ≡ the.Left → IsSorted int_cmp (map number rs)
  right_ascends is = numbers_ascend shows number law rs (others_ascend the.Left is).1

  pub none_kept : first ≡ the.Left → keep ≡ false
  none_kept is = (others_ascend the.Left is).0

-- what was merged of stored numbers was merged of the values that they show
pub shown_merged : {A N : Type 0} (shows : N → Datum) (number : N → ℤ) → ((x : N) → shows x ≡ int (number x)) → (ls rs : List N) (first here : SortedFirst) (keep : Bool) (answer : Result (Vec JoinPair A × MergedView) PolarsError)
    → first ≡ here → AreKeysMerged (order_after here) keep (map number ls) (map number rs) answer → AreValuesMerged (order_after first) keep (map shows ls) (map shows rs) answer
shown_merged shows number law ls rs first here keep answer is h =
    subst (λ (f : SortedFirst). AreValuesMerged (order_after f) keep (map shows ls) (map shows rs) answer) (sym is)
    (merged_values (map shows ls) (map shows rs) (map number ls) (map number rs) (shown_numbers shows number law ls) (shown_numbers shows number law rs) (order_after here) keep answer h)

-- what was merged of chunks was merged of those with equal values
pub chunks_merged : {A : Type 0} (order : Direction) (keep : Bool) (ls rs ls' rs' : List (List Datum)) (answer : Result (Vec JoinPair A × MergedView) PolarsError)
    → ls ≡ ls' → rs ≡ rs' → AreValuesMerged order keep (concatenation ls) (concatenation rs) answer → AreValuesMerged order keep (concatenation ls') (concatenation rs') answer
chunks_merged order keep ls rs ls' rs' answer left right h =
    subst (λ (xs : List (List Datum)). AreValuesMerged order keep (concatenation xs) (concatenation rs') answer) left
    (subst (λ (xs : List (List Datum)). AreValuesMerged order keep (concatenation ls) (concatenation xs) answer) right h)
