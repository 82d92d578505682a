-- A join by row keys is a join by the fields of the rows.
use Rattle.std.proofs.Common.{◌≡◌, ℕ, suc, ◌<◌, Bool, false, ◌&&◌, ◌||◌, List, [], ◌∷◌, length, get_or, map, refl, ap, sym, ◌∙◌, zero-add, arith}
use Rattle.std.specs.Prelude.{All, if◌then◌else◌}
use Rattle.std.proofs.lemmas.List.{append-nil, length-map}
use Rattle.std.proofs.lemmas.List.FromFn.{length-range_with_len, get_or-map-range_with_len}
use Rattle.tb_value.specs.Promise.Datum.{Datum, binary, is_present, null}
use Rattle.tb_value.specs.Promise.Pairs.{row_numbers}
use Rattle.tb_value.specs.Promise.Same.{agrees}
use Rattle.tb_value.specs.declared.index.JoinPair.{JoinPair}
use Rattle.tb_chunk.specs.Promise.Col.{Col, values}
use Rattle.tb_chunk.specs.Col.{IsColumn}
use Rattle.tb_chunk.specs.Lent.{lent_columns}
use Rattle.tb_frame.specs.declared.args.JoinType.{JoinType}
use Rattle.tb_frame.specs.Promise.Join.{flag_at, listing, listing_of}
use Rattle.tb_frame.specs.Promise.Table.{height, table_of}
use Rattle.tb_frame.proofs.Listings.{listing-same}
use Rattle.tb_keys.specs.Promise.Listing.{value_listing}
use Rattle.tb_rowkey.specs.Promise.Columns.{fields_at, kinds, row_count, key_at, keys_at}
use Rattle.tb_rowkey.specs.Columns.{AreKeyColumns, flag_of, key_column, columns_meet}
use Rattle.tb_rowkey.specs.Promise.RowKey.{has_key, rowkey}
use Rattle.tb_rowkey.proofs.ColumnRows.{columns_match}
use Rattle.tb_keys.specs.Asked.{asked_request}
use Rattle.tb_keys.specs.declared.request.LentRequest.{LentRequest}
use Rattle.tb_pairs.specs.KeyColumns.{AreAlike}
use Rattle.tb_pairs.proofs.Keys.{key_columns, right_keys, some_right}
use Rattle.tb_pairs.proofs.Requested.{asked_listing, columns_listing}

module _ (nulls : ℕ → Bool) (cs : List Col) where
  pub key_values : values (key_column cs nulls) ≡ map (key_at cs nulls) (row_numbers (row_count cs))
  key_values = append-nil (map (key_at cs nulls) (row_numbers (row_count cs)))

  pub key_count : length (values (key_column cs nulls)) ≡ row_count cs
  key_count = ap (λ (vs : List Datum). length vs) key_values ∙ length-map (row_numbers (row_count cs)) (key_at cs nulls) ∙ length-range_with_len 0 (row_count cs)

  pub key_is : (i : ℕ) → i < row_count cs → get_or (values (key_column cs nulls)) i null ≡ key_at cs nulls i
  key_is i low = ap (λ (vs : List Datum). get_or vs i null) key_values ∙ get_or-map-range_with_len (key_at cs nulls) 0 (row_count cs) i i null low (zero-add i)

-- flags that are the same at each column's place give the same keys
has_key_same : (n m : ℕ → Bool) (fs : List Datum) → ((p : ℕ) → p < length fs → n p ≡ m p) → has_key n fs ≡ has_key m fs
has_key_same n m [] h = refl
has_key_same n m (f ∷ fs) h =
    λ t. (is_present f || h 0 (omega arith) t) && has_key_same (λ p. n (suc p)) (λ p. m (suc p)) fs (λ p low. h (suc p) (omega (arith, low))) t

keys_same : (n m : ℕ → Bool) (cs : List Col) → ((p : ℕ) → p < length cs → n p ≡ m p) → keys_at cs n ≡ keys_at cs m
keys_same n m cs h =
    let each : (i : ℕ) → has_key n (fields_at cs i) ≡ has_key m (fields_at cs i) = λ i. has_key_same n m (fields_at cs i)
    (λ p low. let long = length-map cs (λ (c : Col). get_or (values c) i null) in h p (omega (arith, long, low))) in
    λ t. map (λ i. if each i t then binary (rowkey (kinds cs) (fields_at cs i)) else null) (row_numbers (row_count cs))

-- as do those that are listed of as many places
pub listed_flags : (n : ℕ → Bool) (k : ℕ) → length (map n (row_numbers k)) ≡ k
listed_flags n k = length-map (row_numbers k) n ∙ length-range_with_len 0 k

pub flagged_keys : (n : ℕ → Bool) (k : ℕ) (flags : List Bool) (cs : List Col) → flags ≡ map n (row_numbers k) → length cs ≡ k → keys_at cs (flag_of flags) ≡ keys_at cs n
flagged_keys n k flags cs is many =
    keys_same (flag_of flags) n cs
    (λ p low. ap (λ (fs : List Bool). get_or fs p false) is ∙ get_or-map-range_with_len n 0 k p p false (omega (arith, many, low)) (zero-add p))

-- where Nulls don't match among the keys, the listing of the key columns is that of the columns
pub key_listing : (n : ℕ → Bool) (how : JoinType) (ls rs : List Col) → AreKeyColumns ls → AreKeyColumns rs → kinds ls ≡ kinds rs
    → value_listing false how (values (key_column ls n)) (values (key_column rs n)) ≡ columns_listing n how ls rs
key_listing n how ls rs l r same =
    let lk : List Datum = values (key_column ls n) in
    let rk : List Datum = values (key_column rs n) in
    ◌∙◌ {A = List JoinPair} (λ t. listing_of how (key_count n ls t) (key_count n rs t) (λ i j. agrees false (get_or lk i null) (get_or rk j null)))
    (listing-same how (row_count ls) (row_count rs) (λ i j. agrees false (get_or lk i null) (get_or rk j null)) (columns_meet n ls rs)
    (λ i j low under. ◌∙◌ {A = Bool} (λ t. agrees false (key_is n ls i low t) (key_is n rs j under t)) (columns_match n ls rs i j l r same low under)))

-- of a request
pub row_key_listing : (r : LentRequest) (left right : Col) → AreAlike (lent_columns r.left_keys.now) (lent_columns r.right_keys.now) → All IsColumn (lent_columns r.left_keys.now) → All IsColumn (lent_columns r.right_keys.now)
    → left ≡ key_column (lent_columns r.left_keys.now) (flag_at r.args.now.join_nulls) → right ≡ key_column (lent_columns r.right_keys.now) (flag_at r.args.now.join_nulls)
    → value_listing false r.how (values left) (values right) ≡ listing (asked_request r)
row_key_listing r left right alike in_left in_right is_left is_right =
    let ls : List Col = lent_columns r.left_keys.now in
    let rs : List Col = lent_columns r.right_keys.now in
    ◌∙◌ {A = List JoinPair} (λ t. value_listing false r.how (values (is_left t)) (values (is_right t)))
    (key_listing (flag_at r.args.now.join_nulls) r.how ls rs
    (key_columns (height (table_of r.left.now)) ls alike.some r.left_rows in_left alike.keys)
    (key_columns (height (table_of r.right.now)) rs (some_right ls rs alike) r.right_rows in_right (right_keys ls rs alike)) alike.types
    ∙ asked_listing r alike)

-- of keys that are made of both sides
pub row_keys_listing : (r : LentRequest) (us vs : List Datum) → AreAlike (lent_columns r.left_keys.now) (lent_columns r.right_keys.now) → All IsColumn (lent_columns r.left_keys.now) → All IsColumn (lent_columns r.right_keys.now)
    → us ≡ keys_at (lent_columns r.left_keys.now) (flag_at r.args.now.join_nulls) → vs ≡ keys_at (lent_columns r.right_keys.now) (flag_at r.args.now.join_nulls)
    → value_listing false r.how us vs ≡ listing (asked_request r)
row_keys_listing r us vs alike in_left in_right is_left is_right =
    let n : ℕ → Bool = flag_at r.args.now.join_nulls in
    let ls : List Col = lent_columns r.left_keys.now in
    let rs : List Col = lent_columns r.right_keys.now in
    let left : us ≡ values (key_column ls n) = is_left ∙ sym (key_values n ls) in
    let right : vs ≡ values (key_column rs n) = is_right ∙ sym (key_values n rs) in
    ◌∙◌ {A = List JoinPair} (λ t. value_listing false r.how (left t) (right t)) (row_key_listing r (key_column ls n) (key_column rs n) alike in_left in_right refl refl)
