-- A Left join that isn't refused isn't refused of a part of its left rows.
use Rattle.std.proofs.Common.{◌≡◌, ℕ, ◌<◌, ◌≤◌, min, nat_lt, Bool, true, false, not, ◌&&◌, List, [], ◌∷◌, ◌++◌, length, get_or, map, refl, ap, arith, sym, ◌∙◌, Option, Some, None}
use Rattle.std.specs.Prelude.{filter, option_map}
use Rattle.std.specs.List.{filter_map, find}
use Rattle.std.proofs.lemmas.List.{length-map}
use Rattle.std.proofs.lemmas.List.Sorted.{length_permutation}
use Rattle.tb_value.specs.Promise.Kind.{Kind}
use Rattle.tb_value.specs.Promise.Kind as kind
use Rattle.tb_value.specs.Promise.Names.{Name}
use Rattle.tb_value.specs.Promise.Pairs.{row_numbers}
use Rattle.tb_value.specs.Promise.Refusals.{first_cause, when}
use Rattle.tb_value.specs.Promise.SameKind.{same_kind, is_key}
use Rattle.tb_value.specs.declared.error.ComputeCause.TheVariants.{KeyTypes, TooManyRows, Validation}
use Rattle.tb_value.specs.declared.error.InvalidCause.TheVariants.{KeyKind}
use Rattle.tb_value.specs.declared.error.PolarsError.{PolarsError}
use Rattle.tb_value.specs.declared.error.PolarsError.TheVariants.{ColumnNotFound, ComputeError, InvalidOperation}
use Rattle.tb_value.specs.declared.error.Side.TheVariants as side
use Rattle.tb_value.specs.declared.index.JoinPair.{JoinPair}
use Rattle.tb_value.specs.declared.limits.TheConstants.{MAX_ROWS}
use Rattle.tb_value.proofs.Loops.{map-map}
use Rattle.tb_frame.specs.declared.args.JoinArgs.{JoinArgs}
use Rattle.tb_frame.specs.declared.args.JoinType.{JoinType}
use Rattle.tb_frame.specs.declared.args.JoinType.TheVariants.{Left}
use Rattle.tb_frame.specs.declared.args.JoinValidation.TheVariants.{ManyToMany}
use Rattle.tb_frame.specs.Promise.Join.{Request, by_names, direction, listing, listing_of, matches, column_named, nulls_match}
use Rattle.tb_frame.specs.Promise.Naming.{is_among, joined_names}
use Rattle.tb_frame.specs.Promise.Refusal.{asks_left, asks_right, broken_left, broken_right, has_twins, is_validated, join_causes, join_refusal, key_counts, key_kind, key_types, kind_at, no_keys, null_flags, repeated_among, repeated_name, too_many_rows, unknown_key}
use Rattle.tb_frame.specs.Promise.Table.{TableColumn, Table, height, names_of}
use Rattle.tb_frame.proofs.InOrder.{in_order, in_order-ordered}
use Rattle.tb_frame.proofs.Listings.{listing-same}
use Rattle.tb_filter.specs.Promise.Filtered.{with_rows}
use Rattle.tb_filter.proofs.Rows.{kept_few}
use Rattle.tb_node.specs.Kept.{kept, over_all, passes_row}
use Rattle.tb_node.proofs.KeptAnswer.{height_with, keys_with, matches_with, with_one}
use Rattle.tb_node.proofs.KeptRows.{kept_pairs}

-- LISTS OF CAUSES

split : (cs : List (Option PolarsError)) (x : Option PolarsError) → first_cause (cs ++ x ∷ []) ≡ None → (first_cause cs ≡ None) × (x ≡ None)
split [] None h = (refl, refl)
split [] (Some e) h = absurd (cc)
split (None ∷ cs) x h = split cs x h
split (Some e ∷ cs) x h = absurd (cc)

joined : (cs : List (Option PolarsError)) (x : Option PolarsError) → first_cause cs ≡ None → x ≡ None → first_cause (cs ++ x ∷ []) ≡ None
joined [] None h e = refl
joined [] (Some y) h e = absurd (cc)
joined (None ∷ cs) x h e = joined cs x h e
joined (Some y ∷ cs) x h e = absurd (cc)

not_when : (b : Bool) (e : PolarsError) → when b e ≡ None → b ≡ false
not_when true e h = absurd (cc)
not_when false e h = refl

-- all causes but the last
front : Request → List (Option PolarsError)
front q = unknown_key q.left q.left_on ∷ unknown_key q.right q.right_on ∷ no_keys q.left_on q.right_on ∷ key_counts q.left_on q.right_on ∷ null_flags q.args.join_nulls (length q.left_on) ∷ repeated_among q.left_on ∷ repeated_among q.right_on
    ∷ key_types q ∷ key_kind q ∷ repeated_name q ∷ broken_left q ∷ broken_right q ∷ []

in_parts : (q : Request) → join_causes q ≡ front q ++ too_many_rows q ∷ []
unfolding front
in_parts q = refl

unbroken_left : (q : Request) → q.args.how ≡ Left → q.args.validation ≡ ManyToMany → broken_left q ≡ None
unbroken_left q how many = λ t. when (is_validated (how t) && asks_left (many t) && has_twins (nulls_match q) q.left_keys (height q.left)) (ComputeError (Validation side.Left))

unbroken_right : (q : Request) → q.args.how ≡ Left → q.args.validation ≡ ManyToMany → broken_right q ≡ None
unbroken_right q how many = λ t. when (is_validated (how t) && asks_right (many t) && has_twins (nulls_match q) q.right_keys (height q.right)) (ComputeError (Validation side.Right))

module _ (p : ℕ → Bool) (l r : Table) (lo ro : List Name) (a : JoinArgs) (how : a.how ≡ Left) (many : a.validation ≡ ManyToMany) (wide : 0 < length l) where
  abbrev ks : List ℕ
  ks = kept p (height l)

  abbrev whole : Request
  whole = by_names l r lo ro a

  abbrev part : Request
  part = by_names (with_rows (kept p (height l)) l) r lo ro a

  abbrev one : TableColumn → TableColumn
  one = with_one (kept p (height l))

  names : names_of (with_rows (kept p (height l)) l) ≡ names_of l
  names = map-map (λ (c : TableColumn). c.name) one l

  kinds : map (λ (c : TableColumn). c.kind) part.left_keys ≡ map (λ (c : TableColumn). c.kind) whole.left_keys
  kinds = ap (map (λ (c : TableColumn). c.kind)) (keys_with (kept p (height l)) l lo) ∙ map-map (λ (c : TableColumn). c.kind) one (filter_map (column_named l) lo)

  counts : length part.left_keys ≡ length whole.left_keys
  counts = ap length (keys_with (kept p (height l)) l lo) ∙ length-map (filter_map (column_named l) lo) one

  same_front : front part ≡ front whole
  unfolding front
  same_front = λ t.
      option_map (λ n. ColumnNotFound n) (find (λ n. not (is_among (names t) n)) lo)
      ∷ unknown_key r ro ∷ no_keys lo ro ∷ key_counts lo ro ∷ null_flags a.join_nulls (length lo) ∷ repeated_among lo ∷ repeated_among ro
      ∷ option_map (λ i. ComputeError (KeyTypes i)) (find (λ i. not (same_kind (get_or (kinds t) i kind.null) (kind_at whole.right_keys i))) (row_numbers (min (counts t) (length whole.right_keys))))
      ∷ option_map (λ i. InvalidOperation (KeyKind i)) (find (λ i. not (is_key (get_or (kinds t) i kind.null))) (row_numbers (min (counts t) (length whole.right_keys))))
      ∷ repeated_among (joined_names a lo ro (names t) (names_of r))
      ∷ (unbroken_left part how many ∙ sym (unbroken_left whole how many)) t
      ∷ (unbroken_right part how many ∙ sym (unbroken_right whole how many)) t ∷ []

  shorter : length (listing part) ≤ length (listing whole)
  shorter =
      let m : ℕ → ℕ → Bool = matches whole in
      let few : ℕ → ℕ → Bool = λ i j. m (get_or (kept p (height l)) i 0) j in
      let o = a.maintain_order in
      let ps : List JoinPair = in_order (direction Left o) Left (height l) (height r) m in
      let qs : List JoinPair = in_order (direction Left o) Left (length (kept p (height l))) (height r) few in
      let all = in_order-ordered Left o (height l) (height r) m in
      let some = in_order-ordered Left o (length (kept p (height l))) (height r) few in
      let same : map (over_all p (height l)) qs ≡ filter (λ (pair : JoinPair). passes_row p pair.left) ps = kept_pairs o p (height l) (height r) m ps qs all some in
      let is_part : listing part ≡ listing_of Left (length (kept p (height l))) (height r) few =
      (λ t. listing_of (how t) (height_with (kept p (height l)) l wide t) (height r) (matches part))
      ∙ listing-same Left (length (kept p (height l))) (height r) (matches part) few (λ i j low lower. matches_with (kept p (height l)) l r lo ro a i j low) in
      let is_whole : listing whole ≡ listing_of Left (height l) (height r) m = ap (λ (h : JoinType). listing_of h (height l) (height r) m) how in
      let a1 = length_permutation _ _ all.permutation in
      let a2 = length_permutation _ _ some.permutation in
      omega (arith, ap length is_part, ap length is_whole, a1, a2, length-map qs (over_all p (height l)), ap length same, kept_few (λ (pair : JoinPair). passes_row p pair.left) ps)

  pub kept_refusal : join_refusal whole ≡ None → join_refusal part ≡ None
  kept_refusal none =
      let parts = split (front whole) (too_many_rows whole) (ap first_cause (sym (in_parts whole)) ∙ none) in
      let few : nat_lt MAX_ROWS (length (listing part)) ≡ false = grind (arith, shorter, not_when (nat_lt MAX_ROWS (length (listing whole))) (ComputeError TooManyRows) parts.1) in
      ap first_cause (in_parts part)
      ∙ joined (front part) (too_many_rows part) (ap first_cause same_front ∙ parts.0) (ap (λ b. when b (ComputeError TooManyRows)) few)
