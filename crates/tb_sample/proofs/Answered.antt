-- The tables as they are lent to the join, and answers to it.
use Rattle.std.proofs.Common.{◌≡◌, ◌∙◌, ◌*◌, ◌%◌, ◌<◌, ◌≤◌, ℕ, pos, Bool, true, false, cond, List, [], ◌∷◌, length, map, Result, Option, Some, None, refl, ap, sym, subst, arith}
use Rattle.std.specs.Prelude.{codes, IsSomeAnd, Ok, IfOk}
use Rattle.std.specs.List.{All, find}
use Rattle.std.specs.Option.{option_map}
use Rattle.std.proofs.lemmas.List.Elements.{All-nil, All-cons}
use Rattle.std.proofs.lemmas.List.FromFn.{length-map-range_with_len}
use Rattle.std.proofs.lemmas.Result.{IfOk-weaker}
use Rattle.tb_value.specs.Promise.Datum.{int}
use Rattle.tb_value.specs.Promise.Kind.{Kind, int64}
use Rattle.tb_value.specs.Promise.Names.{Name, same_name}
use Rattle.tb_value.specs.declared.limits.TheConstants.{MAX_ROWS}
use Rattle.tb_value.specs.Promise.Pairs.{row_numbers}
use Rattle.tb_value.specs.Refusals.{Settles}
use Rattle.tb_value.specs.declared.error.OutOfMemory.{OutOfMemory}
use Rattle.tb_value.specs.declared.error.PolarsError.{PolarsError}
use Rattle.tb_agg.specs.Promise.Aggregates.{total}
use Rattle.tb_chunk.specs.Promise.Col.{Col, values}
use Rattle.tb_frame.specs.declared.args.JoinType.TheVariants.{Inner}
use Rattle.tb_frame.specs.Promise.Join.{IsAnswer, Request, by_names, column_named}
use Rattle.tb_frame.specs.Join.{lent_request}
use Rattle.tb_frame.specs.Promise.Naming.{Field}
use Rattle.tb_frame.specs.Promise.Refusal.{join_refusal}
use Rattle.tb_frame.specs.Promise.Table.{TableColumn, Table, IsTable, IsTyped, height, plain_column, schema_of, table_of}
use Rattle.tb_frame.proofs.Causes.{distinct_names}
use Rattle.tb_frame.proofs.Selected.{found, named-plain}
use Rattle.tb_frame.proofs.Validity.{some_answer}
use Rattle.tb_join.specs.Promise.Asked.{plain_args}
use Rattle.tb_sample.specs.declared.summary.Summary.{Summary}
use Rattle.tb_sample.specs.Promise.Sample.{IsSummary, left_table, numbers, request, right_table, sum_of, summary, values_in}
use Rattle.tb_sample.specs.Sample.{HasNumbers}
use Rattle.tb_sample.proofs.Numbers.{numbers_typed}
use Rattle.tb_sample.proofs.Pairs.{valid}

-- THE TABLES

-- two columns of numbers with two names
module _ (n : ℕ) (left right : Name) (f g : ℕ → ℕ) where
  abbrev two : Table
  two = numbers left f n ∷ numbers right g n ∷ []

  level : All (λ (c : TableColumn). length c.values ≡ height two) two
  level =
      let P : TableColumn → Type 0 = λ c. length c.values ≡ length (map (λ i. int (pos (f i))) (row_numbers n)) in
      All-cons P (numbers left f n) (numbers right g n ∷ []) refl
      (All-cons P (numbers right g n) [] (length-map-range_with_len (λ i. int (pos (g i))) 0 n ∙ sym (length-map-range_with_len (λ i. int (pos (f i))) 0 n)) (All-nil P))

  pub two_typed : ((i : ℕ) → i < n → f i < 9223372036854775808) → ((i : ℕ) → i < n → g i < 9223372036854775808) → All IsTyped two
  two_typed fits_f fits_g =
      All-cons IsTyped (numbers left f n) (numbers right g n ∷ []) (numbers_typed left f n fits_f)
      (All-cons IsTyped (numbers right g n) [] (numbers_typed right g n fits_g) (All-nil IsTyped))

module _ (n : ℕ) (few : n ≤ MAX_ROWS) where
  pub left_is : IsTable (left_table n)
  left_is = record {
    distinct = distinct_names (codes "key" ∷ codes "v" ∷ []) refl;
    one_height = level n (codes "key") (codes "v") (λ i. i) (λ i. 3 * i);
    typed = two_typed n (codes "key") (codes "v") (λ i. i) (λ i. 3 * i) (λ i low. omega (arith, few)) (λ i low. omega (arith, few));
  }

  pub right_is : IsTable (right_table n)
  right_is = record {
    distinct = distinct_names (codes "key" ∷ codes "w" ∷ []) refl;
    one_height = level n (codes "key") (codes "w") (λ j. (7 * j) % n) (λ j. j);
    typed = two_typed n (codes "key") (codes "w") (λ j. (7 * j) % n) (λ j. j) (λ j low. omega (arith, few)) (λ j low. omega (arith, few));
  }

  pub some_summary : (s : Summary) × IsSummary n s
  unfolding request IsSummary
  some_summary =
      let some = some_answer (request n) (valid n few) left_is right_is (λ i d low k e. absurd (cc)) in
      (summary some.0, (some.0, some.1, refl))

-- ITS JOIN

-- the tables as they are lent
pub is_request : (n : ℕ) (left right : List Col) (on : List Name) → table_of left ≡ left_table n → table_of right ≡ right_table n → on ≡ codes "key" ∷ [] → lent_request left right on on (plain_args Inner) ≡ request n
unfolding request
is_request n left right on l r o = λ t. by_names (l t) (r t) (o t) (o t) (plain_args Inner)

pub unrefused : (n : ℕ) (q : Request) (outcome : Result (List Col) PolarsError) → q ≡ request n → n ≤ MAX_ROWS → Settles outcome (join_refusal q) → Settles outcome None
unrefused n q outcome is few h = subst (Settles outcome) (ap join_refusal is ∙ valid n few) h

pub answered : (n : ℕ) (q : Request) (outcome : Result (List Col) PolarsError) (result : Result (List Col) OutOfMemory) → q ≡ request n → IfOk outcome (λ t. IsAnswer q (table_of t)) → IfOk result (λ t. outcome ≡ Ok t) → IfOk result (λ t. IsAnswer (request n) (table_of t))
answered n q outcome result is answer h =
    IfOk-weaker result (λ t. outcome ≡ Ok t) (λ t. IsAnswer (request n) (table_of t))
    (λ t e. subst (λ p. IsAnswer p (table_of t)) is (subst (λ o. IfOk o (λ s. IsAnswer q (table_of s))) e answer)) h

-- THE COLUMNS OF AN ANSWER

-- a column has the type that the names and types say
named_kind : (name : Name) (k : Kind) (t : Table) → IsSomeAnd (find (λ (f : Field). same_name f.0 name) (schema_of t)) (λ f. f.1 ≡ k) → IsSomeAnd (column_named t name) (λ c. c.kind ≡ k)
named_kind name k [] h = h
named_kind name k (c ∷ cs) h = at (same_name c.name name) h (named_kind name k cs)
  where
    at : (b : Bool) → IsSomeAnd (cond b (Some (c.name, c.kind)) (find (λ (f : Field). same_name f.0 name) (schema_of cs))) (λ f. f.1 ≡ k)
        → (IsSomeAnd (find (λ (f : Field). same_name f.0 name) (schema_of cs)) (λ f. f.1 ≡ k) → IsSomeAnd (column_named cs name) (λ d. d.kind ≡ k))
        → IsSomeAnd (cond b (Some c) (column_named cs name)) (λ d. d.kind ≡ k)
    at true g rest = g
    at false g rest = rest g

module _ (n : ℕ) (t : Table) (answer : IsAnswer (request n) t) where
  pub has_key : HasNumbers (codes "key") t
  unfolding request
  has_key = named_kind (codes "key") int64 t (subst (λ (fs : List Field). IsSomeAnd (find (λ (f : Field). same_name f.0 (codes "key")) fs) (λ f. f.1 ≡ int64)) (sym answer.columns) refl)

  pub has_w : HasNumbers (codes "w") t
  unfolding request
  has_w = named_kind (codes "w") int64 t (subst (λ (fs : List Field). IsSomeAnd (find (λ (f : Field). same_name f.0 (codes "w")) fs) (λ f. f.1 ≡ int64)) (sym answer.columns) refl)

-- THE COLUMN OF A NAME, AMONG COLUMNS

module _ (name : Name) (cs : List Col) (c : Col) (is : Some c ≡ found name cs) where
  named_is : column_named (table_of cs) name ≡ Some (plain_column c)
  named_is = named-plain name cs ∙ ap (option_map plain_column) (sym is)

  pub kind_is : HasNumbers name (table_of cs) → c.kind ≡ int64
  kind_is has = subst (λ (o : Option TableColumn). IsSomeAnd o (λ d. d.kind ≡ int64)) named_is has

  pub sum_is : sum_of name (table_of cs) ≡ total (values c)
  sum_is = ap (λ (o : Option TableColumn). total (values_in o)) named_is

-- there is one
pub some_column : (name : Name) (cs : List Col) → HasNumbers name (table_of cs) → None ≡ found name cs → ⊥
some_column name cs has none = subst (λ (o : Option TableColumn). IsSomeAnd o (λ d. d.kind ≡ int64)) (named-plain name cs ∙ ap (option_map plain_column) (sym none)) has
