-- The rows of groups have the values of their first rows, and the ids of a table's rows are those of its side.
use Rattle.std.proofs.Common.{◌≡◌, ◌∙◌, ◌<◌, ◌+◌, ℕ, Bool, true, ◌&&◌, ◌++◌, eqb, if◌then◌else◌, List, [], ◌∷◌, filter, get_or, length, map, refl, sym, ap, subst, arith}
use Rattle.std.specs.Prelude.{All, position, unwrap_or, Some}
use Rattle.std.specs.List.{enumerate_from}
use Rattle.std.specs.Cmp.{IsEquivalence}
use Rattle.std.proofs.Math.Bool.{and-true}
use Rattle.std.proofs.lemmas.List.{get_or-map, length-map}
use Rattle.std.proofs.lemmas.List.Elements.{All-filter, All-tail}
use Rattle.std.proofs.lemmas.List.FromFn.{get_or-enumerate_from, get_or-map-range_with_len, length-enumerate_from, length-map-range_with_len}
use Rattle.std.proofs.lemmas.List.Quantifiers.{position-Some}
use Rattle.tb_value.specs.Promise.Datum.{Datum, null}
use Rattle.tb_value.specs.Promise.Names.{Name, same_name}
use Rattle.tb_value.specs.Promise.Pairs.{row_numbers}
use Rattle.tb_value.specs.Promise.Same.{agrees, same}
use Rattle.tb_value.specs.Proved.ValueTests.{pulled, same_equiv}
use Rattle.tb_value.proofs.RowNumbers.{rows_below}
use Rattle.tb_chunk.specs.Promise.Col.{Col, values}
use Rattle.tb_frame.specs.Promise.Table.{IsTable, Table, TableColumn, height, plain_column, rows_of, table_of}
use Rattle.tb_frame.proofs.Tables.{length-rows_of}
use Rattle.tb_numbered.specs.Numbered.{numbered_rows}
use Rattle.tb_rows.specs.Grouped.{AreGroups}
use Rattle.tb_rows.specs.Promise.Rows.{first_rows, group_of, same_rows}
use Rattle.tb_rows.specs.declared.groups.Groups.{Groups}
use Rattle.tb_rows.proofs.FirstRows.{firsts_below, group_is, numbers_below}
use Rattle.tb_delta.specs.Inside.{agreeing, key_of, place_of}
use Rattle.tb_delta.specs.Promise.State.{Row, side_of}
use Rattle.tb_delta.specs.TakenUp.{led, rows_agreeing, value_at}
use Rattle.tb_delta.proofs.Given.{column_back, place_is}
use Rattle.tb_delta.proofs.KeyGroups.{put_all, put_first, put_next}
use Rattle.tb_delta.proofs.Partners.{picked}

-- THE ROWS OF ONE VALUE

abbrev same_at : List Datum → ℕ → ℕ → Bool
same_at vs i j = same (value_at vs i) (value_at vs j)

one_list : (vs : List Datum) → same_rows (vs ∷ []) ≡ same_at vs
one_list vs = λ t i j. and-true (same_at vs i j) t

own_test : (vs : List Datum) → IsEquivalence (same_at vs)
own_test vs = pulled (value_at vs) same_equiv

module _ (vs : List Datum) (g : Groups) (groups : AreGroups (same_rows (vs ∷ [])) (length vs) g) where
  firsts : g.firsts.items ≡ first_rows (same_at vs) (length vs)
  firsts = groups.firsts ∙ (λ t. first_rows (one_list vs t) (length vs))

  numbers : g.numbers.items ≡ map (group_of (same_at vs) (length vs)) (row_numbers (length vs))
  numbers = groups.numbers ∙ (λ t. map (group_of (one_list vs t) (length vs)) (row_numbers (length vs)))

  -- there are as many numbers as rows, each of a group, and each first row is one
  pub numbers_long : length g.numbers.items ≡ length vs
  numbers_long = ap length groups.numbers ∙ length-map-range_with_len (group_of (same_rows (vs ∷ [])) (length vs)) 0 (length vs)

  pub numbers_low : All (λ p. p < length g.firsts.items) g.numbers.items
  numbers_low =
      subst (λ (l : List ℕ). All (λ p. p < length g.firsts.items) l) (sym numbers)
      (subst (λ (l : List ℕ). All (λ p. p < length l) (map (group_of (same_at vs) (length vs)) (row_numbers (length vs)))) (sym firsts)
      (numbers_below (same_at vs) (own_test vs) (length vs)))

  pub first_low : (p d : ℕ) → p < length g.firsts.items → get_or g.firsts.items p d < length vs
  first_low p d low =
      let all : All (λ i. i < length vs) g.firsts.items = subst (λ (l : List ℕ). All (λ i. i < length vs) l) (sym groups.firsts) (firsts_below (same_rows (vs ∷ [])) (length vs)) in
      all p d low

  -- a row is in the group of a first row that has its value, and in no other
  pub number_is : (p j : ℕ) → p < length g.firsts.items → j < length vs → eqb (get_or g.numbers.items j 0) p ≡ same (value_at vs (get_or g.firsts.items p 0)) (value_at vs j)
  number_is p j low under =
      let here : p < length (first_rows (same_at vs) (length vs)) = subst (λ (l : List ℕ). p < length l) firsts low in
      let at : get_or g.numbers.items j 0 ≡ group_of (same_at vs) (length vs) j =
      ap (λ (l : List ℕ). get_or l j 0) numbers ∙ get_or-map-range_with_len (group_of (same_at vs) (length vs)) 0 (length vs) j j 0 under (omega arith) in
      ap (λ n. eqb n p) at ∙ group_is (same_at vs) (own_test vs) (length vs) p j here
      ∙ ap (λ (l : List ℕ). same (value_at vs (get_or l p 0)) (value_at vs j)) (sym firsts)

  -- the ids under a key: before the first group is put, when the next one is, and when all are
  module _ (nulls : Bool) where
    pub group_first : (own : Bool) (now : List ℕ) (k : Datum) → (own ≡ true → now ≡ []) → now ≡ (if own then led nulls vs g.numbers.items 0 k else now)
    group_first = put_first nulls vs g.numbers.items g.firsts.items numbers_long numbers_low number_is

    pub group_next : (p : ℕ) → p < length g.firsts.items → (k : Datum) (own : Bool) (now old init : List ℕ)
        → now ≡ (if own && agrees nulls (value_at vs (get_or g.firsts.items p 0)) k then old ++ numbered_rows g.numbers.items p else old)
        → old ≡ (if own then led nulls vs g.numbers.items p k else init)
        → now ≡ (if own then led nulls vs g.numbers.items (p + 1) k else init)
    group_next = put_next nulls vs g.numbers.items g.firsts.items numbers_long numbers_low number_is

    pub group_last : (p : ℕ) (k : Datum) → p ≡ length g.firsts.items → (own : Bool) (now init : List ℕ) → now ≡ (if own then led nulls vs g.numbers.items p k else init)
        → now ≡ (if own then rows_agreeing nulls vs k else init)
    group_last = put_all nulls vs g.numbers.items g.firsts.items numbers_long numbers_low number_is

-- THE ROWS OF A TABLE

own_numbers : (f : ℕ → ℕ) (xs : List ℕ) → All (λ i. f i ≡ i) xs → map f xs ≡ xs
own_numbers f [] all = refl
own_numbers f (x ∷ xs) all =
    let here : f x ≡ x = all 0 0 (omega arith) in
    let rest : map f xs ≡ xs = own_numbers f xs (All-tail (λ i. f i ≡ i) x xs all) in
    λ t. here t ∷ rest t

-- the rows of a table whose key agrees, as rows of its key column
pub column_agreeing : (t : Table) (level : All (λ (c : TableColumn). length c.values ≡ height t) t) (on : Name) (p : ℕ) (d : TableColumn) (nulls : Bool) (k : Datum)
    → p < length t → place_of (side_of t on).columns on ≡ Some p
    → rows_agreeing nulls (get_or t p d).values k ≡ agreeing nulls (side_of t on) k
column_agreeing t level on p d nulls k low place =
    let rows : List Row = enumerate_from 0 (rows_of t) in
    let vs : List Datum = (get_or t p d).values in
    let field : Row → Datum = λ r. get_or r.1 p null in
    let test : Datum → Bool = λ v. agrees nulls v k in
    let number : ℕ → ℕ = λ i. get_or (map (λ (r : Row). r.0) rows) i 0 in
    let back : map field rows ≡ vs = column_back t level p d low in
    let long : length rows ≡ length vs = length-enumerate_from 0 (rows_of t) ∙ length-rows_of t ∙ sym (level p d low) in
    let key : (r : Row) → field r ≡ key_of (side_of t on) r.1 = λ r. ap (λ o. get_or r.1 (unwrap_or o 0) null) (sym place) in
    let own : (i : ℕ) → i < length vs → number i ≡ i = λ i under.
    let there : i < length rows = omega (arith, under, long) in
    let in_rows : i < length (rows_of t) = omega (arith, there, length-enumerate_from 0 (rows_of t)) in
    get_or-map (λ (r : Row). r.0) rows i (0, []) 0 there ∙ ap (λ (r : Row). r.0) (get_or-enumerate_from 0 (rows_of t) i (0, []) in_rows) ∙ omega arith in
    let few : List ℕ = rows_agreeing nulls vs k in
    sym (own_numbers number few (All-filter (λ i. test (value_at vs i)) (λ i. number i ≡ i) (row_numbers (length vs)) (λ j e h. own (get_or (row_numbers (length vs)) j e) (rows_below (length vs) j e h))))
    ∙ (λ x. map number (filter (λ i. test (value_at (sym back x) i)) (row_numbers (sym long x))))
    ∙ picked (λ r. r.0) field test rows
    ∙ (λ x. map (λ (r : Row). r.0) (filter (λ (r : Row). agrees nulls (key r x) k) rows))

-- the same of a column at its place
pub place_agreeing : (cs : List Col) → IsTable (table_of cs) → (on : Name) (p : ℕ) (c : Col) (nulls : Bool) (k : Datum)
    → position (λ (x : Col). same_name x.name on) cs ≡ Some p → c ≡ get_or cs p c
    → rows_agreeing nulls (values c) k ≡ agreeing nulls (side_of (table_of cs) on) k
place_agreeing cs table on p c nulls k place is =
    let there = position-Some (λ (x : Col). same_name x.name on) cs p c place in
    let low : p < length (table_of cs) = omega (arith, there.0, length-map cs plain_column) in
    let column : values c ≡ (get_or (table_of cs) p (plain_column c)).values = ap values is ∙ ap (λ (x : TableColumn). x.values) (sym (get_or-map plain_column cs p c (plain_column c) there.0)) in
    ap (λ vs. rows_agreeing nulls vs k) column
    ∙ column_agreeing (table_of cs) table.one_height on p (plain_column c) nulls k low (place_is cs on ∙ place)
