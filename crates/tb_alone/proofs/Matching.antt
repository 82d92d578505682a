-- Rows match where their keys do.
use Rattle.std.proofs.Common.{◌≡◌, ℕ, ◌<◌, ◌≤◌, Bool, true, false, ◌||◌, min, List, [], length, get_or, map, refl, ap, sym, ◌∙◌, arith, zero-add, Option, Some, None}
use Rattle.std.specs.Prelude.{All}
use Rattle.std.specs.List.{list_all}
use Rattle.std.specs.Str.{bytes_eq}
use Rattle.std.proofs.lemmas.List.{length-map}
use Rattle.std.proofs.lemmas.List.FromFn.{length-range_with_len, get_or-map-range_with_len}
use Rattle.tb_value.specs.declared.limits.TheConstants.{MAX_ROWS}
use Rattle.tb_value.specs.Promise.Datum.{Datum, binary, null}
use Rattle.tb_value.specs.Promise.Pairs.{row_numbers}
use Rattle.tb_value.specs.Promise.Same.{agrees}
use Rattle.tb_value.proofs.Ascending.{kept_same}
use Rattle.tb_chunk.specs.Chunk.{or_null}
use Rattle.tb_chunk.specs.Promise.Col.{Col}
use Rattle.tb_chunk.specs.Col.{IsColumn}
use Rattle.tb_chunk.specs.Lent.{lent_columns}
use Rattle.tb_frame.specs.Promise.Join.{flag_at, matches}
use Rattle.tb_frame.specs.Promise.Refusal.{has_twins}
use Rattle.tb_frame.specs.Promise.Table.{height, plain_column, table_of}
use Rattle.tb_build.specs.Keys.{key_twins, keys_match, rows_match, rows_with, twins_among}
use Rattle.tb_build.proofs.Lists.{get_or-map_any}
use Rattle.tb_hash.specs.KeyCells.{same_bytes}
use Rattle.tb_keys.specs.Asked.{asked_request}
use Rattle.tb_keys.specs.declared.request.LentRequest.{LentRequest}
use Rattle.tb_rowkey.specs.Promise.Columns.{key_at, keys_at, kinds, row_count}
use Rattle.tb_rowkey.specs.Columns.{AreKeyColumns, columns_meet}
use Rattle.tb_rowkey.proofs.ColumnRows.{columns_match}
use Rattle.tb_pairs.specs.KeyColumns.{AreKeysAlike}
use Rattle.tb_pairs.specs.RowKeys.{AreRowKeysOf}
use Rattle.tb_pairs.proofs.Keys.{as_many, key_columns, right_keys, rows_counted, some_right}
use Rattle.tb_pairs.proofs.Requested.{field_is}
use Rattle.tb_pairs.proofs.Twins.{columns_twins, twins_same}
use Rattle.tb_alone.specs.Keys.{coded_list, lent_coded, same_key}
use Rattle.tb_alone.specs.declared.coded.CodedKey.{CodedKey}
use Rattle.tb_alone.proofs.CodedBytes.{coded_same}
use Rattle.tb_alone.specs.Tables.{IsKeyTable, rows_for}
use Rattle.tb_alone.specs.Found.{AreFound}
use Rattle.tb_alone.proofs.InOrder.{rows_for-with}

or_false : (b : Bool) → (b || false) ≡ b
or_false true = refl
or_false false = refl

-- keys match where what they are agrees
lent_agrees : (x y : Option (List ℕ)) → keys_match same_key false (lent_coded x) (lent_coded y) ≡ agrees false (or_null binary x) (or_null binary y)
lent_agrees None None = refl
lent_agrees None (Some y) = refl
lent_agrees (Some x) None = refl
lent_agrees (Some x) (Some y) = coded_same x y ∙ sym (or_false (bytes_eq x y) ∙ same_bytes x y)

-- ONE SIDE: the keys of the rows of columns

module _ (n : ℕ → Bool) (cs : List Col) (keys : List (Option (List ℕ))) (are : map (or_null binary) keys ≡ keys_at cs n) where
  pub keys_many : length (coded_list keys) ≡ row_count cs
  keys_many =
      length-map keys lent_coded ∙ sym (length-map keys (or_null binary)) ∙ ap (λ (vs : List Datum). length vs) are
      ∙ length-map (row_numbers (row_count cs)) (key_at cs n) ∙ length-range_with_len 0 (row_count cs)

  key_is : (i : ℕ) → i < row_count cs → or_null binary (get_or keys i None) ≡ key_at cs n i
  key_is i low =
      sym (get_or-map_any (or_null binary) keys i None) ∙ ap (λ (vs : List Datum). get_or vs i null) are
      ∙ get_or-map-range_with_len (key_at cs n) 0 (row_count cs) i i null low (zero-add i)

-- BOTH SIDES

module _ (n : ℕ → Bool) (ls rs : List Col) (left right : List (Option (List ℕ))) (in_left : map (or_null binary) left ≡ keys_at ls n) (in_right : map (or_null binary) right ≡ keys_at rs n)
    (l : AreKeyColumns ls) (r : AreKeyColumns rs) (same : kinds ls ≡ kinds rs) where
  pub keys_meet : (i j : ℕ) → i < row_count ls → j < row_count rs → rows_match same_key false (coded_list left) (coded_list right) i j ≡ columns_meet n ls rs i j
  keys_meet i j low under =
      (λ t. keys_match same_key false (get_or-map_any lent_coded left i None t) (get_or-map_any lent_coded right j None t))
      ∙ lent_agrees (get_or left i None) (get_or right j None)
      ∙ ◌∙◌ {A = Bool} (λ t. agrees false (key_is n ls left in_left i low t) (key_is n rs right in_right j under t)) (columns_match n ls rs i j l r same low under)

-- twins among the keys of columns are twins among their rows
pub keys_twins : (n : ℕ → Bool) (cs : List Col) (keys : List (Option (List ℕ))) → map (or_null binary) keys ≡ keys_at cs n → AreKeyColumns cs → (h : ℕ) → row_count cs ≡ h
    → key_twins same_key false (coded_list keys) ≡ has_twins n (table_of cs) h
keys_twins n cs keys are columns h high =
    ap (λ (k : ℕ). twins_among k (rows_match same_key false (coded_list keys) (coded_list keys))) (keys_many n cs keys are)
    ∙ twins_same (row_count cs) (rows_match same_key false (coded_list keys) (coded_list keys)) (columns_meet n cs cs) (λ i j low under. keys_meet n cs cs keys keys are are columns columns refl i j low under)
    ∙ sym (columns_twins n cs h high)

-- THE REQUEST

module _ (r : LentRequest) (alike : AreKeysAlike r) (in_left : All IsColumn (lent_columns r.left_keys.now)) (in_right : All IsColumn (lent_columns r.right_keys.now))
    (left right : List (Option (List ℕ))) (keys : AreRowKeysOf r left right) where
  abbrev ls : List Col
  ls = lent_columns r.left_keys.now

  abbrev rs : List Col
  rs = lent_columns r.right_keys.now

  abbrev nulls : ℕ → Bool
  nulls = flag_at r.args.now.join_nulls

  left_columns : AreKeyColumns ls
  left_columns = key_columns (height (table_of r.left.now)) ls alike.some r.left_rows in_left alike.keys

  right_columns : AreKeyColumns rs
  right_columns = key_columns (height (table_of r.right.now)) rs (some_right ls rs alike) r.right_rows in_right (right_keys ls rs alike)

  left_high : row_count ls ≡ height (table_of r.left.now)
  left_high = rows_counted (height (table_of r.left.now)) ls alike.some r.left_rows

  right_high : row_count rs ≡ height (table_of r.right.now)
  right_high = rows_counted (height (table_of r.right.now)) rs (some_right ls rs alike) r.right_rows

  pub twins_left : key_twins same_key false (coded_list left) ≡ has_twins nulls (table_of ls) (height (table_of r.left.now))
  twins_left = keys_twins nulls ls left keys.left_keys left_columns (height (table_of r.left.now)) left_high

  pub twins_right : key_twins same_key false (coded_list right) ≡ has_twins nulls (table_of rs) (height (table_of r.right.now))
  twins_right = keys_twins nulls rs right keys.right_keys right_columns (height (table_of r.right.now)) right_high

  places_are : length ls ≡ min (length (table_of ls)) (length (table_of rs))
  places_are =
      let many = as_many ls rs alike in
      let left = length-map ls plain_column in
      let right = length-map rs plain_column in
      omega (arith, left, right, many)

  -- rows of the request match where their keys do
  pub matches_are : (i j : ℕ) → i < height (table_of r.left.now) → j < height (table_of r.right.now) → rows_match same_key false (coded_list left) (coded_list right) i j ≡ matches (asked_request r) i j
  matches_are i j low under =
      keys_meet nulls ls rs left right keys.left_keys keys.right_keys left_columns right_columns alike.types i j (omega (arith, low, left_high)) (omega (arith, under, right_high))
      ∙ λ t. list_all (λ p. agrees (nulls p) (field_is ls p i t) (field_is rs p j t)) (row_numbers (places_are t))

  -- the rows that a table of the right keys has at the left keys are those that match
  pub found_are : length right ≤ MAX_ROWS → (items : List (CodedKey × ℕ)) → IsKeyTable same_key (coded_list right) items → (found : List (List ℕ))
      → found ≡ map (λ i. rows_for same_key items (get_or (coded_list left) i None)) (row_numbers (length (coded_list left))) → AreFound (asked_request r) found
  found_are few items table found is = record {
    few = omega (arith, few, right_many, length-map right lent_coded);
    count = ap (λ (l : List (List ℕ)). length l) is ∙ length-map (row_numbers (length (coded_list left))) _ ∙ length-range_with_len 0 (length (coded_list left)) ∙ left_many;
    each = λ i low.
        ap (λ (l : List (List ℕ)). get_or l i []) is
        ∙ get_or-map-range_with_len (λ i. rows_for same_key items (get_or (coded_list left) i None)) 0 (length (coded_list left)) i i [] (omega (arith, low, left_many)) (zero-add i)
        ∙ rows_for-with same_key (coded_list right) items table (get_or (coded_list left) i None)
        ∙ ap (λ (k : ℕ). rows_with same_key false (coded_list right) (get_or (coded_list left) i None) k) right_many
        ∙ kept_same (rows_match same_key false (coded_list left) (coded_list right) i) (matches (asked_request r) i) (height (table_of r.right.now)) (λ j under. matches_are i j low under);
  }
    where
      left_many : length (coded_list left) ≡ height (table_of r.left.now)
      left_many = keys_many nulls ls left keys.left_keys ∙ left_high

      right_many : length (coded_list right) ≡ height (table_of r.right.now)
      right_many = keys_many nulls rs right keys.right_keys ∙ right_high
