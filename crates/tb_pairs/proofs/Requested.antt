-- The listing of key columns is that of the request whose keys they are.
use Rattle.std.proofs.Common.{◌≡◌, ℕ, Bool, true, false, ◌&&◌, min, List, [], ◌∷◌, length, get_or, refl, ap, sym, subst, ◌∙◌, arith}
use Rattle.std.specs.Borrow.{Bor}
use Rattle.std.specs.List.{list_all}
use Rattle.std.proofs.lemmas.List.{length-map}
use Rattle.tb_value.specs.Promise.Datum.{Datum, null}
use Rattle.tb_value.specs.Promise.Pairs.{row_numbers}
use Rattle.tb_value.specs.Promise.Same.{agrees}
use Rattle.tb_value.specs.Promise.SameKind.{is_key}
use Rattle.tb_value.specs.declared.index.JoinPair.{JoinPair}
use Rattle.tb_value.proofs.Loops.{map-map}
use Rattle.tb_chunk.specs.Promise.Col.{Col, values}
use Rattle.tb_chunk.specs.Lent.{lent_columns}
use Rattle.tb_frame.specs.declared.args.JoinType.{JoinType}
use Rattle.tb_frame.specs.Promise.Join.{field, flag_at, listing, listing_of}
use Rattle.tb_frame.specs.Promise.Table.{TableColumn, height, plain_column, table_of}
use Rattle.tb_keys.specs.Promise.Listing.{value_listing}
use Rattle.tb_rowkey.specs.Promise.Columns.{row_count}
use Rattle.tb_rowkey.specs.Columns.{columns_meet, field_of}
use Rattle.tb_sorted.proofs.OneKey.{one_column}
use Rattle.tb_keys.specs.Asked.{asked_request}
use Rattle.tb_keys.specs.declared.request.LentRequest.{LentRequest}
use Rattle.tb_pairs.specs.KeyColumns.{AreAlike}
use Rattle.tb_pairs.proofs.Keys.{as_many, one_alike, rows_counted, some_right}

-- the listing of key columns, whose rows match where their fields agree at every place
abbrev pub columns_listing : (ℕ → Bool) → JoinType → List Col → List Col → List JoinPair
columns_listing nulls how ls rs = listing_of how (row_count ls) (row_count rs) (columns_meet nulls ls rs)

-- the same of tables of l and r rows
abbrev pub keys_listing : (ℕ → Bool) → JoinType → ℕ → ℕ → List TableColumn → List TableColumn → List JoinPair
keys_listing nulls how l r ls rs = listing_of how l r (λ i j. list_all (λ p. agrees (nulls p) (field ls p i) (field rs p j)) (row_numbers (min (length ls) (length rs))))

pub field_is : (cs : List Col) (p i : ℕ) → field_of cs p i ≡ field (table_of cs) p i
field_is cs p i = ap (λ (vs : List (List Datum)). get_or (get_or vs p []) i null) (sym (map-map (λ (c : TableColumn). c.values) plain_column cs))

places_are : (ls rs : List Col) → length ls ≡ length rs → length ls ≡ min (length (table_of ls)) (length (table_of rs))
places_are ls rs many =
    let left = length-map ls plain_column in
    let right = length-map rs plain_column in
    omega (arith, left, right, many)

pub columns_listed : (nulls : ℕ → Bool) (how : JoinType) (ls rs : List Col) (l r : ℕ) → length ls ≡ length rs → row_count ls ≡ l → row_count rs ≡ r → columns_listing nulls how ls rs ≡ keys_listing nulls how l r (table_of ls) (table_of rs)
columns_listed nulls how ls rs l r many high_l high_r = λ t. listing_of how (high_l t) (high_r t) (λ i j. list_all (λ p. agrees (nulls p) (field_is ls p i t) (field_is rs p j t)) (row_numbers (places_are ls rs many t)))

-- ONE KEY

and_true : (b : Bool) → b ≡ (b && true)
and_true true = refl
and_true false = refl

pub one_listed : (nulls : ℕ → Bool) (how : JoinType) (ls rs : List Col) (a b : Col) → ls ≡ a ∷ [] → rs ≡ b ∷ [] → value_listing (nulls 0) how (values a) (values b) ≡ columns_listing nulls how ls rs
one_listed nulls how ls rs a b is_a is_b =
    ◌∙◌ {A = List JoinPair} (λ t. listing_of how (length (values a)) (length (values b)) (λ i j. and_true (agrees (nulls 0) (get_or (values a) i null) (get_or (values b) j null)) t))
    (λ t. columns_listing nulls how (sym is_a t) (sym is_b t))

-- THE REQUEST

module _ (r : LentRequest) (alike : AreAlike (lent_columns r.left_keys.now) (lent_columns r.right_keys.now)) where
  pub asked_listing : columns_listing (flag_at r.args.now.join_nulls) r.how (lent_columns r.left_keys.now) (lent_columns r.right_keys.now) ≡ listing (asked_request r)
  asked_listing =
      let ls : List Col = lent_columns r.left_keys.now in
      let rs : List Col = lent_columns r.right_keys.now in
      columns_listed (flag_at r.args.now.join_nulls) r.how ls rs (height (table_of r.left.now)) (height (table_of r.right.now)) (as_many ls rs alike) (rows_counted (height (table_of r.left.now)) ls alike.some r.left_rows) (rows_counted (height (table_of r.right.now)) rs (some_right ls rs alike) r.right_rows)

  pub one_right : length r.left_keys.now ≡ 1 → length r.right_keys.now ≡ 1
  one_right one =
      let many = as_many (lent_columns r.left_keys.now) (lent_columns r.right_keys.now) alike in
      let left = length-map r.left_keys.now (λ (b : Bor Col). b.now) in
      let right = length-map r.right_keys.now (λ (b : Bor Col). b.now) in
      omega (arith, one, many, left, right)

  -- one key on each side
  module _ (d e : Bor Col) (one : length r.left_keys.now ≡ 1) where
    -- the listing of their values is that of the request
    pub one_key_listing : (null_matches : Bool) → null_matches ≡ flag_at r.args.now.join_nulls 0
        → value_listing null_matches r.how (values (get_or r.left_keys.now 0 d).now) (values (get_or r.right_keys.now 0 e).now) ≡ listing (asked_request r)
    one_key_listing null_matches is =
        ap (λ (b : Bool). value_listing b r.how (values (get_or r.left_keys.now 0 d).now) (values (get_or r.right_keys.now 0 e).now)) is
        ∙ one_listed (flag_at r.args.now.join_nulls) r.how (lent_columns r.left_keys.now) (lent_columns r.right_keys.now) (get_or r.left_keys.now 0 d).now (get_or r.right_keys.now 0 e).now (one_column r.left_keys.now d one) (one_column r.right_keys.now e (one_right one))
        ∙ asked_listing

    -- and both are of one key type
    pub one_key_types : (is_key (get_or r.left_keys.now 0 d).now.kind ≡ true) × ((get_or r.left_keys.now 0 d).now.kind ≡ (get_or r.right_keys.now 0 e).now.kind)
    one_key_types =
        one_alike (get_or r.left_keys.now 0 d).now (get_or r.right_keys.now 0 e).now
        (subst (λ (cs : List Col). AreAlike cs ((get_or r.right_keys.now 0 e).now ∷ [])) (one_column r.left_keys.now d one)
        (subst (λ (cs : List Col). AreAlike (lent_columns r.left_keys.now) cs) (one_column r.right_keys.now e (one_right one)) alike))
