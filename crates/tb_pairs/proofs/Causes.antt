-- The causes of key columns are those of the request whose keys they are.
use Rattle.std.proofs.Common.{◌≡◌, ℕ, Bool, true, false, ◌&&◌, List, [], ◌∷◌, length, get_or, refl, ap, sym, ◌∙◌, Option}
use Rattle.std.specs.Prelude.{All}
use Rattle.std.specs.Borrow.{Bor}
use Rattle.tb_value.specs.Promise.Datum.{Datum, null}
use Rattle.tb_value.specs.Promise.Refusals.{first_cause}
use Rattle.tb_value.specs.Promise.Same.{agrees}
use Rattle.tb_value.specs.declared.error.PolarsError.{PolarsError}
use Rattle.tb_value.specs.declared.error.Side.TheVariants as side
use Rattle.tb_chunk.specs.Promise.Col.{Col, values}
use Rattle.tb_chunk.specs.Col.{IsColumn}
use Rattle.tb_chunk.specs.Lent.{lent_columns}
use Rattle.tb_frame.specs.Promise.Join.{flag_at, listing}
use Rattle.tb_frame.specs.Promise.Refusal.{asks_left, asks_right, has_twins, row_causes}
use Rattle.tb_frame.specs.Promise.Table.{height, table_of}
use Rattle.tb_keys.specs.Promise.Listing.{value_listing}
use Rattle.tb_keys.specs.Causes.{too_many}
use Rattle.tb_build.specs.Keys.{twins_among}
use Rattle.tb_hash.specs.Twins.{validation_cause, value_causes, value_twins}
use Rattle.tb_rowkey.specs.Promise.Columns.{keys_at, row_count}
use Rattle.tb_rowkey.specs.Columns.{AreKeyColumns, columns_meet, key_column}
use Rattle.tb_rowkey.proofs.ColumnRows.{columns_match}
use Rattle.tb_keys.specs.Asked.{asked_request}
use Rattle.tb_keys.specs.declared.request.LentRequest.{LentRequest}
use Rattle.tb_sorted.proofs.OneKey.{one_column}
use Rattle.tb_pairs.specs.KeyColumns.{AreAlike}
use Rattle.tb_pairs.proofs.Keys.{key_columns, right_keys, rows_counted, some_right}
use Rattle.tb_pairs.proofs.Requested.{one_key_listing, one_right}
use Rattle.tb_pairs.proofs.RowKeys.{key_count, key_is, key_values, row_key_listing}
use Rattle.tb_pairs.proofs.Twins.{columns_twins, twins_same}

and_true : (b : Bool) → (b && true) ≡ b
and_true true = refl
and_true false = refl

-- twins among the values of one key
one_twins : (nulls : ℕ → Bool) (cs : List Col) (c : Col) → cs ≡ c ∷ [] → twins_among (row_count cs) (columns_meet nulls cs cs) ≡ value_twins (nulls 0) (values c)
one_twins nulls cs c is =
    ap (λ (ds : List Col). twins_among (row_count ds) (columns_meet nulls ds ds)) is
    ∙ λ t. twins_among (length (values c)) (λ i j. and_true (agrees (nulls 0) (get_or (values c) i null) (get_or (values c) j null)) t)

-- twins among row keys, where Nulls don't match
row_twins : (n : ℕ → Bool) (cs : List Col) → AreKeyColumns cs → twins_among (row_count cs) (columns_meet n cs cs) ≡ value_twins false (values (key_column cs n))
row_twins n cs keys =
    let ks : List Datum = values (key_column cs n) in
    sym (ap (λ (k : ℕ). twins_among k (λ i j. agrees false (get_or ks i null) (get_or ks j null))) (key_count n cs)
    ∙ twins_same (row_count cs) (λ i j. agrees false (get_or ks i null) (get_or ks j null)) (columns_meet n cs cs)
    (λ i j low under. ◌∙◌ {A = Bool} (λ t. agrees false (key_is n cs i low t) (key_is n cs j under t)) (columns_match n cs cs i j keys keys refl low under)))

-- THE REQUEST

module _ (r : LentRequest) where
  -- the causes of values with the same twins and the same listing
  same_causes : (nulls : Bool) (us vs : List Datum) → value_twins nulls us ≡ has_twins (flag_at r.args.now.join_nulls) (table_of (lent_columns r.left_keys.now)) (height (table_of r.left.now))
      → value_twins nulls vs ≡ has_twins (flag_at r.args.now.join_nulls) (table_of (lent_columns r.right_keys.now)) (height (table_of r.right.now))
      → value_listing nulls r.how us vs ≡ listing (asked_request r) → first_cause (value_causes r.args.now.validation nulls r.how us vs) ≡ first_cause (row_causes (asked_request r))
  same_causes nulls us vs left right list =
      λ t. first_cause (validation_cause side.Left r.how (asks_left r.args.now.validation) (left t) ∷ validation_cause side.Right r.how (asks_right r.args.now.validation) (right t) ∷ too_many (length (list t)) ∷ [])

  module _ (alike : AreAlike (lent_columns r.left_keys.now) (lent_columns r.right_keys.now)) where
    left_rows : row_count (lent_columns r.left_keys.now) ≡ height (table_of r.left.now)
    left_rows = rows_counted (height (table_of r.left.now)) (lent_columns r.left_keys.now) alike.some r.left_rows

    right_rows : row_count (lent_columns r.right_keys.now) ≡ height (table_of r.right.now)
    right_rows = rows_counted (height (table_of r.right.now)) (lent_columns r.right_keys.now) (some_right (lent_columns r.left_keys.now) (lent_columns r.right_keys.now) alike) r.right_rows

    -- of one key on each side
    pub one_key_causes : (d e : Bor Col) → length r.left_keys.now ≡ 1 → (null_matches : Bool) → null_matches ≡ flag_at r.args.now.join_nulls 0
        → first_cause (value_causes r.args.now.validation null_matches r.how (values (get_or r.left_keys.now 0 d).now) (values (get_or r.right_keys.now 0 e).now)) ≡ first_cause (row_causes (asked_request r))
    one_key_causes d e one null_matches is =
        let nulls : ℕ → Bool = flag_at r.args.now.join_nulls in
        ap (λ (b : Bool). first_cause (value_causes r.args.now.validation b r.how (values (get_or r.left_keys.now 0 d).now) (values (get_or r.right_keys.now 0 e).now))) is
        ∙ same_causes (nulls 0) _ _
        (sym (columns_twins nulls (lent_columns r.left_keys.now) (height (table_of r.left.now)) left_rows ∙ one_twins nulls (lent_columns r.left_keys.now) (get_or r.left_keys.now 0 d).now (one_column r.left_keys.now d one)))
        (sym (columns_twins nulls (lent_columns r.right_keys.now) (height (table_of r.right.now)) right_rows ∙ one_twins nulls (lent_columns r.right_keys.now) (get_or r.right_keys.now 0 e).now (one_column r.right_keys.now e (one_right r alike one))))
        (one_key_listing r alike d e one (nulls 0) refl)

    -- of row keys
    pub row_key_causes : (left right : Col) → All IsColumn (lent_columns r.left_keys.now) → All IsColumn (lent_columns r.right_keys.now)
        → left ≡ key_column (lent_columns r.left_keys.now) (flag_at r.args.now.join_nulls) → right ≡ key_column (lent_columns r.right_keys.now) (flag_at r.args.now.join_nulls)
        → first_cause (value_causes r.args.now.validation false r.how (values left) (values right)) ≡ first_cause (row_causes (asked_request r))
    row_key_causes left right in_left in_right is_left is_right =
        let nulls : ℕ → Bool = flag_at r.args.now.join_nulls in
        let ls : List Col = lent_columns r.left_keys.now in
        let rs : List Col = lent_columns r.right_keys.now in
        let left_keys : AreKeyColumns ls = key_columns (height (table_of r.left.now)) ls alike.some r.left_rows in_left alike.keys in
        let right_keys : AreKeyColumns rs = key_columns (height (table_of r.right.now)) rs (some_right ls rs alike) r.right_rows in_right (right_keys ls rs alike) in
        same_causes false (values left) (values right)
        (ap (λ (c : Col). value_twins false (values c)) is_left ∙ sym (columns_twins nulls ls (height (table_of r.left.now)) left_rows ∙ row_twins nulls ls left_keys))
        (ap (λ (c : Col). value_twins false (values c)) is_right ∙ sym (columns_twins nulls rs (height (table_of r.right.now)) right_rows ∙ row_twins nulls rs right_keys))
        (row_key_listing r left right alike in_left in_right is_left is_right)

    -- of keys that are made of both sides
    pub row_keys_causes : (us vs : List Datum) → All IsColumn (lent_columns r.left_keys.now) → All IsColumn (lent_columns r.right_keys.now)
        → us ≡ keys_at (lent_columns r.left_keys.now) (flag_at r.args.now.join_nulls) → vs ≡ keys_at (lent_columns r.right_keys.now) (flag_at r.args.now.join_nulls)
        → first_cause (value_causes r.args.now.validation false r.how us vs) ≡ first_cause (row_causes (asked_request r))
    row_keys_causes us vs in_left in_right is_left is_right =
        let n : ℕ → Bool = flag_at r.args.now.join_nulls in
        let ls : List Col = lent_columns r.left_keys.now in
        let rs : List Col = lent_columns r.right_keys.now in
        let left : us ≡ values (key_column ls n) = is_left ∙ sym (key_values n ls) in
        let right : vs ≡ values (key_column rs n) = is_right ∙ sym (key_values n rs) in
        ◌∙◌ {A = Option PolarsError} (λ t. first_cause (value_causes r.args.now.validation false r.how (left t) (right t))) (row_key_causes (key_column ls n) (key_column rs n) in_left in_right refl refl)
