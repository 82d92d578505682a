-- For which causes a part is refused.
use Rattle.std.proofs.Common.{◌≡◌, ℕ, ◌<◌, ◌≤◌, Bool, true, false, not, nat_lt, List, [], ◌∷◌, ◌++◌, length, refl, ap, sym, ◌∙◌, arith, Option, None}
use Rattle.std.specs.Prelude.{◌↔◌, All, ◌&&◌, ◌==◌, min, slice_index_or}
use Rattle.std.specs.List.{find, list_any}
use Rattle.std.specs.Option.{option_map}
use Rattle.std.proofs.lemmas.Bool.Decides.{nat_tests}
use Rattle.std.proofs.lemmas.List.{length-map}
use Rattle.std.proofs.lemmas.List.Filters.{length-filter_both}
use Rattle.std.proofs.lemmas.List.Folds.{list_any_none}
use Rattle.tb_value.specs.Promise.Datum.{Datum}
use Rattle.tb_value.specs.Promise.Kind.{Kind}
use Rattle.tb_value.specs.Promise.Kind as kind
use Rattle.tb_value.specs.Promise.Names.{Name}
use Rattle.tb_value.specs.Promise.Pairs.{row_numbers}
use Rattle.tb_value.specs.Promise.Refusals.{first_cause, when}
use Rattle.tb_value.specs.Promise.SameKind.{is_key, same_kind}
use Rattle.tb_value.specs.declared.error.Side.TheVariants as side
use Rattle.tb_value.specs.declared.error.ComputeCause.TheVariants.{KeyTypes, TooManyRows, Validation}
use Rattle.tb_value.specs.declared.error.InvalidCause.TheVariants.{KeyKind}
use Rattle.tb_value.specs.declared.error.PolarsError.{PolarsError}
use Rattle.tb_value.specs.declared.error.PolarsError.TheVariants.{ColumnNotFound, ComputeError, InvalidOperation}
use Rattle.tb_value.specs.declared.index.JoinPair.{JoinPair}
use Rattle.tb_value.specs.declared.limits.TheConstants.{MAX_ROWS}
use Rattle.tb_value.proofs.RowNumbers.{any_stop}
use Rattle.tb_frame.specs.Promise.Naming.{is_among, joined_names}
use Rattle.tb_frame.specs.Promise.Table.{Table, height}
use Rattle.tb_frame.specs.Promise.Join.{Request, listing, nulls_match, out_columns}
use Rattle.tb_frame.specs.Promise.Naming.{answer_fields}
use Rattle.tb_frame.specs.Promise.Refusal.{asks_left, asks_right, broken_left, broken_right, column_causes, has_twins, is_validated, join_causes, join_valid, key_causes, key_kind, key_types, list_causes, repeated_among, repeated_name, too_many_rows, unknown_key}
use Rattle.tb_frame.proofs.Causes.{no_cause}
use Rattle.tb_frame.proofs.Validity.{few_pairs}
use Rattle.tb_parts.specs.Promise.Parts.{IsParted, left_part, left_rows, part_of_pair, part_request, request_among, right_part, right_rows, table_among, whole_pair}
use Rattle.tb_parts.proofs.Among.{height_among, kinds_among, many_among, names_among, schema_among}
use Rattle.tb_parts.proofs.Lists.{each_row}
use Rattle.tb_parts.proofs.Requests.{listed_in_part}
use Rattle.tb_parts.proofs.Twins.{twins_in_parts}

-- KEYS AND COLUMNS

unknown_among : (rows : List ℕ) (t : Table) (names : List Name) → unknown_key (table_among rows t) names ≡ unknown_key t names
unknown_among rows t names = ap (λ (known : List Name). option_map (λ n. ColumnNotFound n) (find (λ n. not (is_among known n)) names)) (names_among rows t)

module _ (q : Request) (ls rs : List ℕ) where
  abbrev some : Request
  some = request_among q ls rs

  pub key_causes_among : key_causes some ≡ key_causes q
  key_causes_among = λ t. (unknown_among ls q.left q.left_on t ∷ unknown_among rs q.right q.right_on t ∷ []) ++ list_causes q.args.join_nulls q.left_on q.right_on

  places_among : min (length some.left_keys) (length some.right_keys) ≡ min (length q.left_keys) (length q.right_keys)
  places_among = λ t. min (many_among ls q.left_keys t) (many_among rs q.right_keys t)

  types_among : key_types some ≡ key_types q
  types_among = λ t. option_map (λ p. ComputeError (KeyTypes p))
      (find (λ p. not (same_kind (slice_index_or (kinds_among ls q.left_keys t) p kind.null) (slice_index_or (kinds_among rs q.right_keys t) p kind.null))) (row_numbers (places_among t)))

  kind_among : key_kind some ≡ key_kind q
  kind_among = λ t. option_map (λ p. InvalidOperation (KeyKind p))
      (find (λ p. not (is_key (slice_index_or (kinds_among ls q.left_keys t) p kind.null))) (row_numbers (places_among t)))

  repeated_name_among : repeated_name some ≡ repeated_name q
  repeated_name_among = λ t. repeated_among (joined_names q.args q.left_on q.right_on (names_among ls q.left t) (names_among rs q.right t))

  pub column_causes_among : column_causes some ≡ column_causes q
  column_causes_among = λ t. types_among t ∷ kind_among t ∷ repeated_name_among t ∷ []

  pub columns_among : out_columns some ≡ out_columns q
  columns_among = λ t. answer_fields q.args q.left_on q.right_on (schema_among ls q.left t) (schema_among rs q.right t)

-- VALIDATION

off : (b : Bool) (e : PolarsError) → when b e ≡ None → b ≡ false
off true e h = absurd (cc)
off false e h = refl

none_of : (n : ℕ) (f : ℕ → Bool) → list_any f (row_numbers n) ≡ false → (p : ℕ) → p < n → f p ≡ false
none_of n f h p low = by (f p) refl
  where
    by : (b : Bool) → f p ≡ b → f p ≡ false
    by false e = e
    by true e = absurd (let c : true ≡ false = any_stop f p n low e ∙ h in cc)

asked : (x : Bool) (e : PolarsError) (has : Bool) (n : ℕ) (in_part : ℕ → Bool) → has ≡ list_any in_part (row_numbers n)
    → when (x && has) e ≡ None ↔ ((p : ℕ) → p < n → when (x && in_part p) e ≡ None)
asked false e has n in_part is = (λ h p low. refl, λ h. refl)
asked true e has n in_part is = (
  λ h p low. ap (λ (b : Bool). when b e) (none_of n in_part (sym is ∙ off has e h) p low),
  λ h. ap (λ (b : Bool). when b e) (is ∙ list_any_none in_part (row_numbers n) (each_row (λ p. in_part p ≡ false) n (λ p low. off (in_part p) e (h p low)))),
)

module _ (part : List Datum → ℕ) (n : ℕ) (q : Request) (parted : IsParted part n q) where
  pub left_stands : broken_left q ≡ None ↔ ((p : ℕ) → p < n → broken_left (part_request part q p) ≡ None)
  left_stands =
      asked (is_validated q.args.how && asks_left q.args.validation) (ComputeError (Validation side.Left)) (has_twins (nulls_match q) q.left_keys (height q.left)) n
      (λ p. has_twins (nulls_match q) (table_among (left_rows part q p) q.left_keys) (height (table_among (left_rows part q p) q.left)))
      (twins_in_parts (nulls_match q) q.left_keys part (height q.left) n parted.left
      ∙ (λ t. list_any (λ p. has_twins (nulls_match q) (table_among (left_rows part q p) q.left_keys) (sym (height_among (left_part part q) q.left p) t)) (row_numbers n)))

  pub right_stands : broken_right q ≡ None ↔ ((p : ℕ) → p < n → broken_right (part_request part q p) ≡ None)
  right_stands =
      asked (is_validated q.args.how && asks_right q.args.validation) (ComputeError (Validation side.Right)) (has_twins (nulls_match q) q.right_keys (height q.right)) n
      (λ p. has_twins (nulls_match q) (table_among (right_rows part q p) q.right_keys) (height (table_among (right_rows part q p) q.right)))
      (twins_in_parts (nulls_match q) q.right_keys part (height q.right) n parted.right
      ∙ (λ t. list_any (λ p. has_twins (nulls_match q) (table_among (right_rows part q p) q.right_keys) (sym (height_among (right_part part q) q.right p) t)) (row_numbers n)))

  -- a part has no more pairs than the whole
  few_in_part : (p : ℕ) → length (listing (part_request part q p)) ≤ length (listing q)
  few_in_part p =
      let here : JoinPair → Bool = λ pair. p == part_of_pair (left_part part q) (right_part part q) pair in
      let many = length-map (listing (part_request part q p)) (whole_pair (left_rows part q p) (right_rows part q p)) in
      let kept = ap length (listed_in_part part q p parted.keys) in
      omega (arith, many, kept, length-filter_both here (λ pair. not (here pair)) (λ pair. refl) (listing q))

  few_rows : join_valid q → (p : ℕ) → too_many_rows (part_request part q p) ≡ None
  few_rows valid p =
      let few : length (listing (part_request part q p)) ≤ MAX_ROWS = omega (arith, few_in_part p, few_pairs q valid) in
      let not_more : nat_lt MAX_ROWS (length (listing (part_request part q p))) ≡ false = grind (arith, nat_tests, few) in
      ap (λ (b : Bool). when b (ComputeError TooManyRows)) not_more

  pub parts_valid : join_valid q → (p : ℕ) → p < n → join_valid (part_request part q p)
  parts_valid valid p low =
      let none : All (λ (o : Option PolarsError). o ≡ None) (join_causes q) = no_cause (join_causes q) valid in
      let ls : List ℕ = left_rows part q p in
      let rs : List ℕ = right_rows part q p in
      let left : broken_left (part_request part q p) ≡ broken_left q = left_stands.0 (none 10 None (omega arith)) p low ∙ sym (none 10 None (omega arith)) in
      let right : broken_right (part_request part q p) ≡ broken_right q = right_stands.0 (none 11 None (omega arith)) p low ∙ sym (none 11 None (omega arith)) in
      let few : too_many_rows (part_request part q p) ≡ too_many_rows q = few_rows valid p ∙ sym (none 12 None (omega arith)) in
      (λ t. first_cause (key_causes_among q ls rs t ++ column_causes_among q ls rs t ++ (left t ∷ right t ∷ few t ∷ []))) ∙ valid
