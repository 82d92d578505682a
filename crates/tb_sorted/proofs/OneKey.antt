-- Requests with one key on each side.
use Rattle.std.proofs.Common.{◌≡◌, ℕ, Bool, true, false, ◌&&◌, List, [], ◌∷◌, length, get_or, map, refl, sym, ap, ◌∙◌, subst, arith, Option}
use Rattle.std.specs.Prelude.{min}
use Rattle.std.specs.List.{list_all}
use Rattle.std.specs.Borrow.{Bor}
use Rattle.std.proofs.lemmas.List.Elements.{All-head}
use Rattle.tb_value.specs.Promise.Datum.{null}
use Rattle.tb_value.specs.Promise.Kind.{Kind}
use Rattle.tb_value.specs.Promise.Pairs.{row_numbers}
use Rattle.tb_value.specs.Promise.Refusals.{first_cause, when}
use Rattle.tb_value.specs.Promise.Same.{agrees}
use Rattle.tb_value.specs.declared.error.PolarsError.{PolarsError}
use Rattle.tb_value.specs.declared.index.JoinPair.{JoinPair}
use Rattle.tb_chunk.specs.Promise.Col.{Col, values}
use Rattle.tb_chunk.specs.Lent.{lent_columns}
use Rattle.tb_frame.specs.declared.args.JoinType.{JoinType}
use Rattle.tb_frame.specs.declared.args.JoinType.TheVariants.{Inner, Left, Right, Full, Semi, Anti}
use Rattle.tb_frame.specs.declared.args.JoinValidation.{JoinValidation}
use Rattle.tb_frame.specs.declared.args.JoinValidation.TheVariants.{ManyToMany, ManyToOne, OneToMany, OneToOne}
use Rattle.tb_frame.specs.Promise.Join.{field, flag_at, listing, listing_of}
use Rattle.tb_frame.specs.Promise.Refusal.{asks_left, asks_right, is_validated, row_causes}
use Rattle.tb_frame.specs.Promise.Table.{height, table_of}
use Rattle.tb_frame.proofs.Causes.{first_cause-one}
use Rattle.tb_pool.specs.Promise.ExecView.{ExecView}
use Rattle.tb_keys.specs.Asked.{asked_request}
use Rattle.tb_keys.specs.Rows.{HasRows}
use Rattle.tb_keys.specs.declared.request.LentRequest.{LentRequest}
use Rattle.tb_keys.specs.Promise.Listing.{value_listing}
use Rattle.tb_keys.specs.Causes.{too_many}
use Rattle.tb_sorted.specs.Listed.{requested_sizes}
use Rattle.tb_sorted.specs.Path.{AreKeysToMerge}
use Rattle.tb_sorted.specs.Promise.Columns.{first_values, sizes_by}
use Rattle.tb_sorted.specs.Promise.Path.{are_ordered, asks_nothing, is_merge_key, takes_key_path, takes_path_by}
use Rattle.tb_sorted.proofs.Flagged.{first_of, second_of}

pub one_column : (rs : List (Bor Col)) (d : Bor Col) → length rs ≡ 1 → lent_columns rs ≡ (get_or rs 0 d).now ∷ []
one_column [] d one = absurd (omega arith)
one_column (s ∷ []) d one = refl
one_column (s ∷ u ∷ rs) d one = absurd (omega arith)

-- keys that are merged are one on each side
pub one_each : (how : JoinType) (validation : JoinValidation) (exec : ExecView) (ls rs : List (Bor Col)) → takes_path_by how validation exec (lent_columns ls) (lent_columns rs) ≡ true → (length ls ≡ 1) × (length rs ≡ 1)
one_each how validation exec [] rs e = absurd (cc)
one_each how validation exec (l ∷ m ∷ ls) rs e = absurd (cc)
one_each how validation exec (l ∷ []) [] e = absurd (cc)
one_each how validation exec (l ∷ []) (r ∷ s ∷ rs) e = absurd (cc)
one_each how validation exec (l ∷ []) (r ∷ []) e = (refl, refl)

-- keys that are fewer or more aren't merged
pub left_not_one : (how : JoinType) (validation : JoinValidation) (exec : ExecView) (ls rs : List (Bor Col)) → (length ls ≡ 1 → ⊥)
    → false ≡ takes_path_by how validation exec (lent_columns ls) (lent_columns rs)
left_not_one how validation exec [] rs h = refl
left_not_one how validation exec (l ∷ []) rs h = absurd (h refl)
left_not_one how validation exec (l ∷ m ∷ ls) rs h = refl

pub right_not_one : (how : JoinType) (validation : JoinValidation) (exec : ExecView) (ls rs : List (Bor Col)) → (length rs ≡ 1 → ⊥)
    → false ≡ takes_path_by how validation exec (lent_columns ls) (lent_columns rs)
right_not_one how validation exec [] rs h = refl
right_not_one how validation exec (l ∷ m ∷ ls) rs h = refl
right_not_one how validation exec (l ∷ []) [] h = refl
right_not_one how validation exec (l ∷ []) (r ∷ []) h = absurd (h refl)
right_not_one how validation exec (l ∷ []) (r ∷ s ∷ rs) h = refl

-- what it means that the path of two keys is taken
pub record IsTaken (how : JoinType) (validation : JoinValidation) (exec : ExecView) (l r : Col) : Type 0 where
  pub nothing : asks_nothing validation ≡ true
  pub keys : AreKeysToMerge how exec l r

taken_parts : (how : JoinType) (validation : JoinValidation) (exec : ExecView) (l r : Col) → l.kind ≡ r.kind → takes_key_path how validation exec l r ≡ true → IsTaken how validation exec l r
taken_parts how validation exec l r same h =
    let n = asks_nothing validation in
    let o = are_ordered how exec l r in
    let three = first_of (n && o && is_merge_key l) (is_merge_key r) h in
    let two = first_of (n && o) (is_merge_key l) three in
    record {
      nothing = first_of n o two;
      keys = record {
        same = same;
        left = second_of (n && o) (is_merge_key l) three;
        right = second_of (n && o && is_merge_key l) (is_merge_key r) h;
        ordered = second_of n o two;
      };
    }

-- and it is, of the first keys of a request
pub taken_keys : (how : JoinType) (validation : JoinValidation) (exec : ExecView) (ls rs : List (Bor Col)) (d e : Bor Col) → map (λ (c : Col). c.kind) (lent_columns ls) ≡ map (λ (c : Col). c.kind) (lent_columns rs)
    → takes_path_by how validation exec (lent_columns ls) (lent_columns rs) ≡ true → IsTaken how validation exec (get_or ls 0 d).now (get_or rs 0 e).now
taken_keys how validation exec [] rs d e alike h = absurd (cc)
taken_keys how validation exec (l ∷ m ∷ ls) rs d e alike h = absurd (cc)
taken_keys how validation exec (l ∷ []) [] d e alike h = absurd (cc)
taken_keys how validation exec (l ∷ []) (r ∷ s ∷ rs) d e alike h = absurd (cc)
taken_keys how validation exec (l ∷ []) (r ∷ []) d e alike h = taken_parts how validation exec l.now r.now (ap (λ (ks : List Kind). get_or ks 0 l.now.kind) alike) h

-- the listing of their values is that of the request
and_true : (b : Bool) → b ≡ (b && true)
and_true true = refl
and_true false = refl

rows_are : (n : ℕ) (cs : List Col) (c : Col) → cs ≡ c ∷ [] → HasRows n cs → length (values c) ≡ n
rows_are n cs c is h = All-head (λ (d : Col). length (values d) ≡ n) c [] (subst (HasRows n) is h)

-- whether rows match by the columns of keys
abbrev one_key_matches : (ℕ → Bool) → List Col → List Col → ℕ → ℕ → Bool
one_key_matches nulls ls rs i j = list_all (λ p. agrees (nulls p) (field (table_of ls) p i) (field (table_of rs) p j)) (row_numbers (min (length (table_of ls)) (length (table_of rs))))

module _ (r : LentRequest) (a b : Col) (is_left : lent_columns r.left_keys.now ≡ a ∷ []) (is_right : lent_columns r.right_keys.now ≡ b ∷ []) where
  pub requested_listing : value_listing (flag_at r.args.now.join_nulls 0) r.how (values a) (values b) ≡ listing (asked_request r)
  requested_listing =
      let high_left : length (values a) ≡ height (table_of r.left.now) = rows_are (height (table_of r.left.now)) (lent_columns r.left_keys.now) a is_left r.left_rows in
      let high_right : length (values b) ≡ height (table_of r.right.now) = rows_are (height (table_of r.right.now)) (lent_columns r.right_keys.now) b is_right r.right_rows in
      ◌∙◌ {A = List JoinPair} (λ t. listing_of r.how (high_left t) (high_right t) (λ i j. and_true (agrees (flag_at r.args.now.join_nulls 0) (get_or (values a) i null) (get_or (values b) j null)) t))
      (λ t. listing_of r.how (height (table_of r.left.now)) (height (table_of r.right.now)) (one_key_matches (flag_at r.args.now.join_nulls) (sym is_left t) (sym is_right t)))

  -- and so is the merge
  pub requested_sized : sizes_by r.how (values a) (values b) ≡ requested_sizes r
  requested_sized = λ t. sizes_by r.how (first_values (sym is_left t)) (first_values (sym is_right t))

-- THE CAUSES

-- nothing is asked of the sides, so they are not broken
no_cause : (how : JoinType) (exec : ExecView) (a b : Col) (v : JoinValidation) (x y : Bool) (d e : PolarsError) (o : Option PolarsError) → are_ordered how exec a b ≡ true → asks_nothing v ≡ true
    → first_cause (when (is_validated how && asks_left v && x) d ∷ when (is_validated how && asks_right v && y) e ∷ o ∷ []) ≡ o
no_cause Inner exec a b ManyToMany x y d e o h n = first_cause-one o
no_cause Left exec a b ManyToMany x y d e o h n = first_cause-one o
no_cause Right exec a b ManyToMany x y d e o h n = first_cause-one o
no_cause Full exec a b v x y d e o h n = absurd (cc)
no_cause Semi exec a b v x y d e o h n = absurd (cc)
no_cause Anti exec a b v x y d e o h n = absurd (cc)
no_cause Inner exec a b ManyToOne x y d e o h n = absurd (cc)
no_cause Inner exec a b OneToMany x y d e o h n = absurd (cc)
no_cause Inner exec a b OneToOne x y d e o h n = absurd (cc)
no_cause Left exec a b ManyToOne x y d e o h n = absurd (cc)
no_cause Left exec a b OneToMany x y d e o h n = absurd (cc)
no_cause Left exec a b OneToOne x y d e o h n = absurd (cc)
no_cause Right exec a b ManyToOne x y d e o h n = absurd (cc)
no_cause Right exec a b OneToMany x y d e o h n = absurd (cc)
no_cause Right exec a b OneToOne x y d e o h n = absurd (cc)

pub size_alone : (r : LentRequest) (exec : ExecView) (a b : Col) → are_ordered r.how exec a b ≡ true → asks_nothing r.args.now.validation ≡ true → first_cause (row_causes (asked_request r)) ≡ too_many (length (listing (asked_request r)))
size_alone r exec a b ordered nothing = no_cause r.how exec a b r.args.now.validation _ _ _ _ (too_many (length (listing (asked_request r)))) ordered nothing
