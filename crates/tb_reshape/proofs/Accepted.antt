-- What is made long and wide again is refused by neither call.
use Rattle.std.proofs.Common.{◌≡◌, ◌≢◌, ◌∙◌, ◌<◌, ◌≤◌, ◌+◌, ◌*◌, ◌%◌, ◌/◌, ◌&&◌, ℕ, zero, suc, Bool, true, false, cond, eqb, not, List, [], ◌∷◌, ◌++◌, length, map, Option, Some, None, is_none, refl, sym, ap, subst, append_assoc, arith}
use Rattle.std.specs.Option.{option_map}
use Rattle.std.specs.List.{All, AllPairs, cons_option, find}
use Rattle.std.proofs.lemmas.Bool.{and_parts, eqb-true, false_from_ne_true, le-ltb}
use Rattle.std.proofs.lemmas.List.{get_or-map, length-map, map-append}
use Rattle.std.proofs.lemmas.List.Elements.{All-push}
use Rattle.std.proofs.lemmas.List.Folds.{list_any_none}
use Rattle.std.proofs.lemmas.List.FromFn.{get_or-range_with_len, length-range_with_len}
use Rattle.std.proofs.lemmas.List.Quantifiers.{all_pairs_push}
use Rattle.std.proofs.lemmas.Nat.{div-add-mod'}
use Rattle.tb_value.specs.Promise.Kind.{Kind}
use Rattle.tb_value.specs.Promise.Kind as kind
use Rattle.tb_value.specs.Promise.Names.{Name}
use Rattle.tb_value.specs.Promise.Pairs.{row_numbers}
use Rattle.tb_value.specs.Promise.Refusals.{first_cause, when}
use Rattle.tb_value.specs.declared.error.PolarsError.{PolarsError}
use Rattle.tb_value.specs.declared.error.PolarsError.TheVariants.{ColumnNotFound, ComputeError, Duplicate, InvalidOperation}
use Rattle.tb_value.specs.declared.error.ComputeCause.TheVariants.{EmptyIndex, ManyInGroup, TooManyRows}
use Rattle.tb_value.specs.declared.error.InvalidCause.TheVariants.{NoSupertype}
use Rattle.tb_value.specs.declared.limits.TheConstants.{MAX_ROWS}
use Rattle.tb_frame.specs.Promise.Join.{column_named, columns_named}
use Rattle.tb_frame.specs.Promise.Naming.{is_among}
use Rattle.tb_frame.specs.Promise.Refusal.{repeated_among, unknown_key}
use Rattle.tb_frame.specs.Promise.Table.{TableColumn, Table, height, names_of, IsTyped}
use Rattle.tb_frame.proofs.Causes.{unrepeated_names}
use Rattle.tb_frame.proofs.Selected.{unnamed-is}
use Rattle.tb_rows.specs.Promise.Rows.{first_rows, is_first}
use Rattle.tb_unpivot.specs.Promise.Unpivot.{asked_causes, common_kind, failed_at, kind_or_null, long_table, no_supertype, repeated, too_many_values, value_column, variable_column}
use Rattle.tb_pivot.specs.Promise.Pivot.{are_alike, distinct_rows, key_columns, wide}
use Rattle.tb_pivot.specs.Promise.Refusal.{agg_cause, header_cause, many_cause, none_named, pivot_refusal, value_causes}
use Rattle.tb_pivot.specs.Promise.Request.{Chosen, chosen, one_row}
use Rattle.tb_pivot.proofs.Alike.{both_alike}
use Rattle.tb_pivot.proofs.Members.{each_row}
use Rattle.tb_reshape.specs.Undo.{made_long, wide_request, BothAccepted}
use Rattle.tb_reshape.proofs.Back as back
use Rattle.tb_reshape.proofs.Back.{some_hold}
use Rattle.tb_reshape.proofs.Places.{all_pass}
use Rattle.tb_reshape.proofs.Stacked.{IsHigh, one_kind_is}

-- NAMES

-- no name is unknown where each names a column
few_named : (t : Table) (ns : List Name) → length (columns_named t ns) ≤ length ns
few_named t [] = omega arith
few_named t (n ∷ ns) = by (column_named t n) (few_named t ns)
  where
    by : (o : Option TableColumn) → length (columns_named t ns) ≤ length ns → length (cons_option o (columns_named t ns)) ≤ length (n ∷ ns)
    by None h = omega (arith, h)
    by (Some c) h = omega (arith, h)

all_known : (t : Table) (ns : List Name) → length (columns_named t ns) ≡ length ns → unknown_key t ns ≡ None
all_known t [] e = refl
all_known t (n ∷ ns) e = by (column_named t n) refl e (all_known t ns)
  where
    by : (o : Option TableColumn) → column_named t n ≡ o → length (cons_option o (columns_named t ns)) ≡ length (n ∷ ns)
        → (length (columns_named t ns) ≡ length ns → unknown_key t ns ≡ None) → unknown_key t (n ∷ ns) ≡ None
    by None named long rest = absurd (omega (arith, long, few_named t ns))
    by (Some c) named long rest =
        let known : not (is_among (names_of t) n) ≡ false = sym (unnamed-is n t) ∙ ap is_none named in
        ap (λ (b : Bool). option_map (λ (m : Name). ColumnNotFound m) (cond b (Some n) (find (λ m. not (is_among (names_of t) m)) ns))) known ∙ rest (omega (arith, long))

none_repeated : (ns : List Name) → AllPairs (λ (a b : Name). a ≢ b) ns → repeated_among ns ≡ None
none_repeated ns apart = ap (option_map (λ (n : Name). Duplicate n)) (unrepeated_names ns apart)

names_long : (cs : List TableColumn) → length (names_of cs) ≡ length cs
names_long cs = length-map cs (λ (c : TableColumn). c.name)

-- names of others stand before a name that is none of them
one_more : (ns : List Name) (n : Name) → AllPairs (λ (a b : Name). a ≢ b) ns → All (λ (m : Name). m ≢ n) ns → AllPairs (λ (a b : Name). a ≢ b) (ns ++ n ∷ [])
one_more ns n apart others = all_pairs_push (λ (a b : Name). a ≢ b) ns n apart (λ k d low. others k d low)

with_front : (n : Name) (ns : List Name) → AllPairs (λ (a b : Name). a ≢ b) ns → All (λ (m : Name). m ≢ n) ns → AllPairs (λ (a b : Name). a ≢ b) (n ∷ ns)
with_front n ns apart others = front
  where
    front : AllPairs (λ (a b : Name). a ≢ b) (n ∷ ns)
    front zero zero d less low = absurd (omega (arith, less))
    front zero (suc j) d less low = λ e. others j d (omega (arith, low)) (sym e)
    front (suc i) zero d less low = absurd (omega (arith, less))
    front (suc i) (suc j) d less low = apart i j d (omega (arith, less)) (omega (arith, low))

some_named : (ns : List Name) (e : PolarsError) → 0 < length ns → none_named ns e ≡ None
some_named [] e some = absurd (omega (arith, some))
some_named (n ∷ ns) e some = refl

no_agg : (cs : List TableColumn) → agg_cause one_row cs ≡ None
no_agg [] = refl
no_agg (c ∷ cs) = no_agg cs

-- ROWS

-- rows of which no two are the same are first ones
all_first : (test : ℕ → ℕ → Bool) (n : ℕ) → ((i j : ℕ) → i < j → j < n → test i j ≡ false) → first_rows test n ≡ row_numbers n
all_first test n apart =
    all_pass (is_first test) (row_numbers n) (each_row (λ j. is_first test j ≡ true) n (λ j low.
    ap not (list_any_none (λ i. test i j) (row_numbers j) (λ k d under.
    let before : k < j = omega (arith, under, length-range_with_len 0 j) in
    ap (λ i. test i j) (get_or-range_with_len 0 j k d before ∙ omega arith) ∙ apart k j before low))))

-- THE WIDE TABLE

module _ (index on : List TableColumn) (h : ℕ) (some : 0 < h) (k : Kind) (variable value separator : Name) (index_high : All (IsHigh h) index) (on_high : All (IsHigh h) on) (o : TableColumn) (columns : 0 < length on) (distinct : AllPairs (λ (x y : TableColumn). x.name ≢ y.name) on) (apart : (i j : ℕ) → i < h → j < h → are_alike index i j ≡ true → i ≡ j) (one : All (λ (c : TableColumn). c.kind ≡ k) on) (typed : All IsTyped on) where
  abbrev copies : List TableColumn
  copies = map (repeated (length on)) index

  abbrev names_column : TableColumn
  names_column = variable_column variable on

  abbrev q : Chosen
  q = back.q index on h some k variable value separator index_high on_high o columns distinct apart one typed

  rows_apart : (i j : ℕ) → i < j → j < length on * h → are_alike (copies ++ names_column ∷ []) i j ≡ false
  rows_apart i j before low =
      let under : i < length on * h = omega (arith, before, low) in
      let by_row = back.by_row index on h some k variable value separator index_high on_high o columns distinct apart one typed i j under low in
      let by_column = back.by_column index on h some k variable value separator index_high on_high o columns distinct apart one typed i j under low in
      both_alike copies (names_column ∷ []) i j ∙ (λ t. by_row t && by_column t)
      ∙ false_from_ne_true (eqb (i % h) (j % h) && eqb (i / h) (j / h)) (λ e.
      let parts = and_parts (eqb (i % h) (j % h)) (eqb (i / h) (j / h)) e in
      let rest : i % h ≡ j % h = eqb-true (i % h) (j % h) parts.0 in
      let whole : i / h ≡ j / h = eqb-true (i / h) (j / h) parts.1 in
      let same : i / h * h + i % h ≡ j / h * h + j % h = λ t. whole t * h + rest t in
      omega (arith, before, same, div-add-mod' i h, div-add-mod' j h))

  each_alone : many_cause q ≡ None
  each_alone =
      let all : length (distinct_rows q (key_columns q)) ≡ length on * h = ap length (all_first (are_alike (copies ++ names_column ∷ [])) (length on * h) rows_apart) ∙ length-range_with_len 0 (length on * h) in
      ap (λ (b : Bool). when b (ComputeError ManyInGroup)) (le-ltb (length (distinct_rows q (key_columns q))) (length on * h) (omega (arith, all)))

  module _ (of_index : AllPairs (λ (a b : Name). a ≢ b) (names_of index)) (other : variable ≢ value) (no_variable : All (λ (n : Name). n ≢ variable) (names_of index)) (no_value : All (λ (n : Name). n ≢ value) (names_of index)) (some_index : 0 < length index) (all_apart : AllPairs (λ (a b : Name). a ≢ b) (names_of (index ++ on))) where
    abbrev long : Table
    long = long_table k on index variable value

    index_found : columns_named long (names_of index) ≡ copies
    index_found = back.index_found index on h some k variable value separator index_high on_high o columns distinct apart one typed of_index other no_variable no_value

    names_found : columns_named long (variable ∷ []) ≡ names_column ∷ []
    names_found = back.names_found index on h some k variable value separator index_high on_high o columns distinct apart one typed of_index other no_variable no_value

    values_found : columns_named long (value ∷ []) ≡ value_column value k on ∷ []
    values_found = back.values_found index on h some k variable value separator index_high on_high o columns distinct apart one typed of_index other no_variable no_value

    chosen_is : chosen (wide_request long index variable value separator) ≡ q
    chosen_is = λ t. record {
      height = back.height_is index on h some k variable value separator index_high on_high o columns distinct apart one typed index index_high t;
      on = names_found t;
      index = index_found t;
      values = values_found t;
      sorts = false;
      way = one_row;
      separator = separator;
    }

    values_none : first_cause (value_causes q) ≡ None
    values_none =
        let wide_is = back.wide_back index on h some k variable value separator index_high on_high o columns distinct apart one typed in
        let names : repeated_among (names_of (wide q)) ≡ None = ap (λ (t : Table). repeated_among (names_of t)) wide_is ∙ none_repeated (names_of (index ++ on)) all_apart in
        λ t. first_cause (each_alone t ∷ None ∷ None ∷ names t ∷ [])

    pub wide_none : pivot_refusal (wide_request long index variable value separator) ≡ None
    wide_none =
        let named : none_named (names_of index) (ComputeError EmptyIndex) ≡ None = some_named (names_of index) (ComputeError EmptyIndex) (omega (arith, some_index, names_long index)) in
        let known_variable : unknown_key long (variable ∷ []) ≡ None = all_known long (variable ∷ []) (ap length names_found) in
        let known_index : unknown_key long (names_of index) ≡ None = all_known long (names_of index) (ap length index_found ∙ length-map index (repeated (length on)) ∙ sym (names_long index)) in
        let known_value : unknown_key long (value ∷ []) ≡ None = all_known long (value ∷ []) (ap length values_found) in
        let keys : repeated_among (variable ∷ names_of index) ≡ None = none_repeated (variable ∷ names_of index) (with_front variable (names_of index) of_index no_variable) in
        let headers : header_cause (columns_named long (variable ∷ [])) ≡ None = ap header_cause names_found in
        let aggregates : agg_cause one_row (columns_named long (value ∷ [])) ≡ None = no_agg (columns_named long (value ∷ [])) in
        (λ t. first_cause (None ∷ named t ∷ None ∷ known_variable t ∷ known_index t ∷ known_value t ∷ keys t ∷ None ∷ None ∷ headers t ∷ aggregates t ∷ value_causes (chosen_is t)))
        ∙ values_none

-- THE LONG TABLE

names_kept : (m : ℕ) (cs : List TableColumn) → names_of (map (repeated m) cs) ≡ names_of cs
names_kept m [] = refl
names_kept m (c ∷ cs) = ap (λ (ns : List Name). c.name ∷ ns) (names_kept m cs)

long_apart : (k : Kind) (on index : List TableColumn) (variable value : Name) → AllPairs (λ (a b : Name). a ≢ b) (names_of index) → variable ≢ value
    → All (λ (n : Name). n ≢ variable) (names_of index) → All (λ (n : Name). n ≢ value) (names_of index) → AllPairs (λ (a b : Name). a ≢ b) (names_of (long_table k on index variable value))
long_apart k on index variable value of_index other no_variable no_value =
    let ns : List Name = names_of index in
    let is : names_of (long_table k on index variable value) ≡ (ns ++ variable ∷ []) ++ value ∷ []
    = map-append (λ (c : TableColumn). c.name) (map (repeated (length on)) index) (variable_column variable on ∷ value_column value k on ∷ [])
    ∙ ap (λ (ms : List Name). ms ++ variable ∷ value ∷ []) (names_kept (length on) index) ∙ sym (append_assoc ns (variable ∷ []) (value ∷ [])) in
    subst (λ (ms : List Name). AllPairs (λ (a b : Name). a ≢ b) ms) (sym is)
    (one_more (ns ++ variable ∷ []) value (one_more ns variable of_index no_variable) (All-push (λ (n : Name). n ≢ value) ns variable no_value other))

pub accepted : BothAccepted
accepted [] index on k variable value separator law = absurd (let rows = law.undone.rows in omega (arith, rows))
accepted (c ∷ cs) index [] k variable value separator law = absurd (let some = law.undone.some in omega (arith, some))
accepted (c ∷ cs) index (p ∷ ps) k variable value separator law =
    let t : Table = c ∷ cs in
    let on : List TableColumn = p ∷ ps in
    let u = law.undone in
    let found : columns_named t (names_of on) ≡ on = u.of_on.found in
    let type : kind_or_null (common_kind kind.null (columns_named t (names_of on))) ≡ k =
    ap (λ (ds : List TableColumn). kind_or_null (common_kind kind.null ds)) found ∙ ap kind_or_null (one_kind_is k on u.some u.one_kind) in
    let long : made_long t index on variable value ≡ long_table k on index variable value = λ i. long_table (type i) (found i) (u.of_index.found i) variable value in
    let on_known : unknown_key t (names_of on) ≡ None = all_known t (names_of on) (ap length found ∙ sym (names_long on)) in
    let index_known : unknown_key t (names_of index) ≡ None = all_known t (names_of index) (ap length u.of_index.found ∙ sym (names_long index)) in
    let apart : repeated_among (names_of index) ≡ None = none_repeated (names_of index) u.of_index.distinct in
    let typed : no_supertype (columns_named t (names_of on)) ≡ None = ap no_supertype found ∙ ap (λ r. option_map (λ n. InvalidOperation (NoSupertype n)) (failed_at r)) (one_kind_is k on u.some u.one_kind) in
    let few : too_many_values (height t) (length (columns_named t (names_of on))) ≡ None =
    ap (λ (ds : List TableColumn). too_many_values (height t) (length ds)) found ∙ ap (λ (b : Bool). when b (ComputeError TooManyRows)) (le-ltb MAX_ROWS (height t * length on) law.few) in
    let asked : first_cause (asked_causes t (columns_named t (names_of on)) (names_of on) (names_of index)) ≡ None = λ i. first_cause (on_known i ∷ index_known i ∷ apart i ∷ typed i ∷ few i ∷ []) in
    let names : repeated_among (names_of (made_long t index on variable value)) ≡ None =
    ap (λ (l : Table). repeated_among (names_of l)) long ∙ none_repeated (names_of (long_table k on index variable value)) (long_apart k on index variable value u.of_index.distinct u.names u.no_variable u.no_value) in
    let distinct : AllPairs (λ (x y : TableColumn). x.name ≢ y.name) on = λ i j d less low e.
    u.of_on.distinct i j d.name less (omega (arith, low, names_long on))
    (get_or-map (λ (x : TableColumn). x.name) on i d d.name (omega (arith, less, low)) ∙ e ∙ sym (get_or-map (λ (x : TableColumn). x.name) on j d d.name low)) in (
      λ i. first_cause (asked i ∷ names i ∷ []),
      ap (λ (l : Table). pivot_refusal (wide_request l index variable value separator)) long
          ∙ wide_none index on (height t) u.rows k variable value separator
          (some_hold (IsHigh (height t)) t index u.of_index u.table.one_height) (some_hold (IsHigh (height t)) t on u.of_on u.table.one_height) p u.some distinct u.one_row_each u.one_kind
          (some_hold IsTyped t on u.of_on u.table.typed) u.of_index.distinct u.names u.no_variable u.no_value law.some_index law.apart,
    )
