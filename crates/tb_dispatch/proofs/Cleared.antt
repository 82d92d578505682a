-- Keys beside a table without rows: whether they are cleared makes no difference to the request.
use Rattle.std.proofs.Common.{◌≡◌, ◌==◌, ◌<◌, ◌∙◌, ℕ, suc, Bool, true, false, cond, min, not, ◌&&◌, ◌||◌, List, [], ◌∷◌, ◌++◌, length, get_or, map, refl, ap, sym, subst, arith, Option, Some, None}
use Rattle.std.specs.Prelude.{All, nat_lt}
use Rattle.std.specs.List.{find, list_all}
use Rattle.std.specs.Option.{option_map}
use Rattle.std.proofs.lemmas.Bool.{eqb-true}
use Rattle.std.proofs.lemmas.List.{length-map}
use Rattle.std.proofs.lemmas.List.Folds.{list_all-map}
use Rattle.std.proofs.lemmas.List.Elements.{All-cons, All-nil}
use Rattle.tb_value.specs.Promise.Kind.{Kind}
use Rattle.tb_value.specs.Promise.Kind as kind
use Rattle.tb_value.specs.Promise.Names.{Name}
use Rattle.tb_value.specs.Promise.Pairs.{row_numbers}
use Rattle.tb_value.specs.Promise.Refusals.{first_cause, when}
use Rattle.tb_value.specs.Promise.Same.{agrees}
use Rattle.tb_value.specs.Promise.SameKind.{is_key, same_kind}
use Rattle.tb_value.specs.declared.error.ComputeCause.TheVariants.{KeyTypes, TooManyRows, Validation}
use Rattle.tb_value.specs.declared.error.InvalidCause.TheVariants.{KeyKind}
use Rattle.tb_value.specs.declared.error.PolarsError.{PolarsError}
use Rattle.tb_value.specs.declared.error.PolarsError.TheVariants.{ComputeError, InvalidOperation, ShapeMismatch}
use Rattle.tb_value.specs.declared.error.Side.TheVariants as side
use Rattle.tb_value.specs.declared.index.JoinPair.{JoinPair}
use Rattle.tb_value.specs.declared.limits.TheConstants.{MAX_ROWS}
use Rattle.tb_chunk.specs.Promise.Col.{Col, values}
use Rattle.tb_frame.specs.declared.args.JoinArgs.{JoinArgs}
use Rattle.tb_frame.specs.declared.args.JoinType.{JoinType}
use Rattle.tb_frame.specs.declared.args.JoinType.TheVariants.{Inner, Left, Right, Full, Semi, Anti}
use Rattle.tb_frame.specs.Promise.Join.{IsAnswer, IsOrdered, Request, field, flag_at, listing, listing_of}
use Rattle.tb_frame.specs.Join.{CoalescesAlike}
use Rattle.tb_frame.specs.Sides.{asking}
use Rattle.tb_frame.specs.Promise.Refusal.{asks_left, asks_right, broken_left, broken_right, column_causes, has_twins, is_validated, key_kind, key_types, list_causes, name_causes, repeated_name, row_causes, too_many_rows}
use Rattle.tb_frame.specs.Refusal.{fits, given_refusal, key_shapes}
use Rattle.tb_frame.specs.Promise.Table.{Table, TableColumn, height, plain_column, table_of}
use Rattle.tb_frame.proofs.Causes.{first_cause-one, no_cause}
use Rattle.tb_keys.specs.Causes.{later_refusal}
use Rattle.tb_keys.specs.Rows.{HasRows}
use Rattle.tb_keys.proofs.Refusing.{two_parts}
use Rattle.tb_join.specs.Ready.{CanCoalesceKeys}
use Rattle.tb_join.proofs.NamesStand.{NamesStand, names_stand}
use Rattle.tb_dispatch.specs.Given.{all_fit, cleared_columns, early_refusal, emptied_column, given_request, misfit}

-- CAUSES

-- two lists of causes around one
pub three_parts : (xs : List (Option PolarsError)) (k : Option PolarsError) (ys : List (Option PolarsError)) → first_cause (xs ++ k ∷ ys) ≡ first_cause (first_cause xs ∷ k ∷ first_cause ys ∷ [])
three_parts [] None ys = sym (first_cause-one (first_cause ys))
three_parts [] (Some e) ys = refl
three_parts (None ∷ xs) k ys = three_parts xs k ys
three_parts (Some e ∷ xs) k ys = refl

-- THE KEYS

kinds-emptied : (ks : List Col) → map (λ (c : TableColumn). c.kind) (table_of (map emptied_column ks)) ≡ map (λ (c : TableColumn). c.kind) (table_of ks)
kinds-emptied [] = refl
kinds-emptied (k ∷ ks) = ap (λ (ts : List Kind). k.kind ∷ ts) (kinds-emptied ks)

many-emptied : (ks : List Col) → length (table_of (map emptied_column ks)) ≡ length (table_of ks)
many-emptied [] = refl
many-emptied (k ∷ ks) = ap (λ (n : ℕ). suc n) (many-emptied ks)

kinds-cleared : (n : ℕ) (ks : List Col) → map (λ (c : TableColumn). c.kind) (table_of (cleared_columns n ks)) ≡ map (λ (c : TableColumn). c.kind) (table_of ks)
kinds-cleared n ks = at (n == 0)
  where
    at : (b : Bool) → map (λ (c : TableColumn). c.kind) (table_of (cond b (map emptied_column ks) ks)) ≡ map (λ (c : TableColumn). c.kind) (table_of ks)
    at true = kinds-emptied ks
    at false = refl

many-cleared : (n : ℕ) (ks : List Col) → length (table_of (cleared_columns n ks)) ≡ length (table_of ks)
many-cleared n ks = at (n == 0)
  where
    at : (b : Bool) → length (table_of (cond b (map emptied_column ks) ks)) ≡ length (table_of ks)
    at true = many-emptied ks
    at false = refl

-- keys that fit are as long as their table is high, once they are cleared
or_false : (a b : Bool) → (a || false && b) ≡ true → a ≡ true
or_false true b h = refl
or_false false b h = absurd (cc)

and_first : (a b : Bool) → (a && b) ≡ true → a ≡ true
and_first true b h = refl
and_first false b h = absurd (cc)

and_second : (a b : Bool) → (a && b) ≡ true → b ≡ true
and_second true b h = h
and_second false b h = absurd (cc)

pub both_fit : (a b : Bool) (e : PolarsError) → when (not (a && b)) e ≡ None → (a ≡ true) × (b ≡ true)
both_fit true true e h = (refl, refl)
both_fit true false e h = absurd (cc)
both_fit false b e h = absurd (cc)

no-rows : (ks : List Col) → HasRows 0 (map emptied_column ks)
no-rows [] = All-nil (λ (c : Col). length (values c) ≡ 0)
no-rows (k ∷ ks) = All-cons (λ (c : Col). length (values c) ≡ 0) (emptied_column k) (map emptied_column ks) refl (no-rows ks)

own-rows : (n : ℕ) (ks : List Col) → (n == 0) ≡ false → all_fit n ks ≡ true → HasRows n ks
own-rows n [] some h = All-nil (λ (c : Col). length (values c) ≡ n)
own-rows n (k ∷ ks) some h =
    let here : fits n (plain_column k) ≡ true = and_first (fits n (plain_column k)) (all_fit n ks) h in
    let long : (length (values k) == n) ≡ true = or_false (length (values k) == n) (length (values k) == 1) ((λ t. (length (values k) == n) || sym some t && (length (values k) == 1)) ∙ here) in
    All-cons (λ (c : Col). length (values c) ≡ n) k ks (eqb-true (length (values k)) n long) (own-rows n ks some (and_second (fits n (plain_column k)) (all_fit n ks) h))

pub rows-cleared : (n : ℕ) (ks : List Col) → all_fit n ks ≡ true → HasRows n (cleared_columns n ks)
rows-cleared n ks h = at (n == 0) refl
  where
    at : (b : Bool) → (n == 0) ≡ b → HasRows n (cond b (map emptied_column ks) ks)
    at true e = subst (λ (k : ℕ). HasRows k (map emptied_column ks)) (sym (eqb-true n 0 e)) (no-rows ks)
    at false e = own-rows n ks e h

-- TWINS AND PAIRS

no_twins : (nulls : ℕ → Bool) (keys : Table) (n : ℕ) → n ≡ 0 → has_twins nulls keys n ≡ false
no_twins nulls keys n e = ap (has_twins nulls keys) e

twins-cleared : (nulls : ℕ → Bool) (n : ℕ) (ks : List Col) → has_twins nulls (table_of (cleared_columns n ks)) n ≡ has_twins nulls (table_of ks) n
twins-cleared nulls n ks = at (n == 0) refl
  where
    at : (b : Bool) → (n == 0) ≡ b → has_twins nulls (table_of (cond b (map emptied_column ks) ks)) n ≡ has_twins nulls (table_of ks) n
    at true e = no_twins nulls (table_of (map emptied_column ks)) n (eqb-true n 0 e) ∙ sym (no_twins nulls (table_of ks) n (eqb-true n 0 e))
    at false e = refl

no_left : (how : JoinType) (r : ℕ) (m k : ℕ → ℕ → Bool) → listing_of how 0 r m ≡ listing_of how 0 r k
no_left Inner r m k = refl
no_left Left r m k = refl
no_left Right r m k = refl
no_left Full r m k = refl
no_left Semi r m k = refl
no_left Anti r m k = refl

no_right : (how : JoinType) (l : ℕ) (m k : ℕ → ℕ → Bool) → listing_of how l 0 m ≡ listing_of how l 0 k
no_right Inner l m k = refl
no_right Left l m k = refl
no_right Right l m k = refl
no_right Full l m k = refl
no_right Semi l m k = refl
no_right Anti l m k = refl

-- THE REQUEST

abbrev meet : (ℕ → Bool) → List Col → List Col → ℕ → ℕ → Bool
meet nulls ls rs i j = list_all (λ p. agrees (nulls p) (field (table_of ls) p i) (field (table_of rs) p j)) (row_numbers (min (length (table_of ls)) (length (table_of rs))))

module _ (left right lk rk : List Col) (args : JoinArgs) where
  abbrev q : Request
  q = given_request left right lk rk args

  abbrev l : ℕ
  l = height (table_of left)

  abbrev r : ℕ
  r = height (table_of right)

  -- the request by the keys that are cleared_columns
  abbrev pub fitted : Request
  fitted = record q { left_keys = table_of (cleared_columns l lk); right_keys = table_of (cleared_columns r rk) }

  pub listed : listing fitted ≡ listing q
  listed = at (l == 0) (r == 0) refl refl
    where
      to_left : (m k : ℕ → ℕ → Bool) → l ≡ 0 → listing_of args.how l r m ≡ listing_of args.how l r k
      to_left m k e = ap (λ (n : ℕ). listing_of args.how n r m) e ∙ no_left args.how r m k ∙ sym (ap (λ (n : ℕ). listing_of args.how n r k) e)

      to_right : (m k : ℕ → ℕ → Bool) → r ≡ 0 → listing_of args.how l r m ≡ listing_of args.how l r k
      to_right m k e = ap (λ (n : ℕ). listing_of args.how l n m) e ∙ no_right args.how l m k ∙ sym (ap (λ (n : ℕ). listing_of args.how l n k) e)

      at : (a b : Bool) → (l == 0) ≡ a → (r == 0) ≡ b → listing_of args.how l r (meet (flag_at args.join_nulls) (cond a (map emptied_column lk) lk) (cond b (map emptied_column rk) rk)) ≡ listing_of args.how l r (meet (flag_at args.join_nulls) lk rk)
      at true b e f = to_left (meet (flag_at args.join_nulls) (map emptied_column lk) (cond b (map emptied_column rk) rk)) (meet (flag_at args.join_nulls) lk rk) (eqb-true l 0 e)
      at false true e f = to_right (meet (flag_at args.join_nulls) lk (map emptied_column rk)) (meet (flag_at args.join_nulls) lk rk) (eqb-true r 0 f)
      at false false e f = refl

  abbrev left_kinds : map (λ (c : TableColumn). c.kind) (table_of (cleared_columns l lk)) ≡ map (λ (c : TableColumn). c.kind) (table_of lk)
  left_kinds = kinds-cleared l lk

  abbrev right_kinds : map (λ (c : TableColumn). c.kind) (table_of (cleared_columns r rk)) ≡ map (λ (c : TableColumn). c.kind) (table_of rk)
  right_kinds = kinds-cleared r rk

  types : key_types fitted ≡ key_types q
  types = λ t. option_map (λ p. ComputeError (KeyTypes p)) (find (λ p. not (same_kind (get_or (left_kinds t) p kind.null) (get_or (right_kinds t) p kind.null))) (row_numbers (min (many-cleared l lk t) (many-cleared r rk t))))

  kinds : key_kind fitted ≡ key_kind q
  kinds = λ t. option_map (λ p. InvalidOperation (KeyKind p)) (find (λ p. not (is_key (get_or (left_kinds t) p kind.null))) (row_numbers (min (many-cleared l lk t) (many-cleared r rk t))))

  left_broken : broken_left fitted ≡ broken_left q
  left_broken = λ t. when (is_validated args.how && asks_left args.validation && twins-cleared (flag_at args.join_nulls) l lk t) (ComputeError (Validation side.Left))

  right_broken : broken_right fitted ≡ broken_right q
  right_broken = λ t. when (is_validated args.how && asks_right args.validation && twins-cleared (flag_at args.join_nulls) r rk t) (ComputeError (Validation side.Right))

  many : too_many_rows fitted ≡ too_many_rows q
  many = λ t. when (nat_lt MAX_ROWS (length (listed t))) (ComputeError TooManyRows)

  pub later : later_refusal fitted ≡ later_refusal q
  later = λ t. first_cause (types t ∷ kinds t ∷ repeated_name q ∷ left_broken t ∷ right_broken t ∷ many t ∷ [])

  pub answers : (t : Table) → IsAnswer fitted t → IsAnswer q t
  answers t h = record { table = h.table; columns = h.columns; pairs = h.pairs; ordered = subst (λ (ps : List JoinPair). IsOrdered args.how args.maintain_order h.pairs ps) listed h.ordered; rows = h.rows }

  -- THE CAUSES IN TWO PARTS

  fit_is : (n : ℕ) (ks : List Col) → list_all (fits n) (table_of ks) ≡ all_fit n ks
  fit_is n ks = list_all-map (fits n) plain_column ks

  shapes : key_shapes q ≡ misfit left right lk rk
  shapes = λ t. when (not (fit_is l lk t && fit_is r rk t)) ShapeMismatch

  early : first_cause (name_causes q.left q.right q.left_on q.right_on ++ key_shapes q ∷ list_causes args.join_nulls q.left_on q.right_on) ≡ early_refusal left right lk rk args.join_nulls q.left_on q.right_on
  early = three_parts (name_causes q.left q.right q.left_on q.right_on) (key_shapes q) (list_causes args.join_nulls q.left_on q.right_on)
      ∙ ap (λ (o : Option PolarsError). first_cause (first_cause (name_causes q.left q.right q.left_on q.right_on) ∷ o ∷ first_cause (list_causes args.join_nulls q.left_on q.right_on) ∷ [])) shapes

  pub in_parts : given_refusal q ≡ first_cause (early_refusal left right lk rk args.join_nulls q.left_on q.right_on ∷ later_refusal q ∷ [])
  in_parts = two_parts (name_causes q.left q.right q.left_on q.right_on ++ key_shapes q ∷ list_causes args.join_nulls q.left_on q.right_on) (column_causes q ++ row_causes q)
      ∙ ap (λ (o : Option PolarsError). first_cause (o ∷ later_refusal q ∷ [])) early

  -- what stands where no early cause holds
  module _ (none : early_refusal left right lk rk args.join_nulls q.left_on q.right_on ≡ None) where
    causes : All (λ (o : Option PolarsError). o ≡ None) (first_cause (name_causes q.left q.right q.left_on q.right_on) ∷ misfit left right lk rk ∷ first_cause (list_causes args.join_nulls q.left_on q.right_on) ∷ [])
    causes = no_cause (first_cause (name_causes q.left q.right q.left_on q.right_on) ∷ misfit left right lk rk ∷ first_cause (list_causes args.join_nulls q.left_on q.right_on) ∷ []) none

    pub all_later : given_refusal q ≡ later_refusal q
    all_later = in_parts ∙ (λ t. first_cause (none t ∷ later_refusal q ∷ [])) ∙ first_cause-one (later_refusal q)

    pub stand : NamesStand fitted
    stand = names_stand fitted
        (two_parts (name_causes q.left q.right q.left_on q.right_on) (list_causes args.join_nulls q.left_on q.right_on)
        ∙ (λ t. first_cause (causes 0 None (omega arith) t ∷ causes 2 None (omega arith) t ∷ [])))

    pub left_fit : HasRows l (cleared_columns l lk)
    left_fit = rows-cleared l lk (both_fit (all_fit l lk) (all_fit r rk) ShapeMismatch (causes 1 None (omega arith))).0

    pub right_fit : HasRows r (cleared_columns r rk)
    right_fit = rows-cleared r rk (both_fit (all_fit l lk) (all_fit r rk) ShapeMismatch (causes 1 None (omega arith))).1

    pub mergeable : CoalescesAlike q → CanCoalesceKeys fitted
    mergeable alike = record { known = λ merges. stand.known_right; many = λ merges. let counts = stand.counts in omega (arith, counts); alike = alike }

    many_left : length (cleared_columns l lk) ≡ length q.left_on
    many_left = sym (length-map (cleared_columns l lk) plain_column) ∙ many-cleared l lk ∙ sym (length-map (table_of lk) (λ (c : TableColumn). c.name))

    many_right : length (cleared_columns r rk) ≡ length q.right_on
    many_right = sym (length-map (cleared_columns r rk) plain_column) ∙ many-cleared r rk ∙ sym (length-map (table_of rk) (λ (c : TableColumn). c.name))

    pub some : 0 < length (cleared_columns l lk)
    some = let n = many_left in let h = stand.some_left in omega (arith, n, h)

    pub as_many : length (cleared_columns l lk) ≡ length (cleared_columns r rk)
    as_many = many_left ∙ stand.counts ∙ sym many_right

  -- the request by lists that are those of the keys
  pub fitted_is : (left_on right_on : List Name) (ls rs : List Col) → left_on ≡ q.left_on → right_on ≡ q.right_on → ls ≡ cleared_columns l lk → rs ≡ cleared_columns r rk
      → asking args.how (record { left = table_of left; right = table_of right; left_on = left_on; right_on = right_on; left_keys = table_of ls; right_keys = table_of rs; args = args }) ≡ fitted
  fitted_is left_on right_on ls rs a b x y = λ t. asking args.how (record { left = table_of left; right = table_of right; left_on = a t; right_on = b t; left_keys = table_of (x t); right_keys = table_of (y t); args = args })
