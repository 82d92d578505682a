-- What was made long comes back when it is made wide.
use Rattle.std.proofs.Common.{◌≡◌, ◌≢◌, ◌∙◌, ◌<◌, ◌≤◌, ◌+◌, ◌*◌, ◌/◌, ◌%◌, ℕ, true, false, eqb, List, [], ◌∷◌, ◌++◌, get_or, length, map, Option, refl, sym, ap, subst, arith}
use Rattle.std.specs.List.{All, AllPairs, cons_option}
use Rattle.std.proofs.lemmas.List.{append-nil, get_or-map, length-map}
use Rattle.std.proofs.lemmas.List.Elements.{All-cons, All-get_or, All-head, All-nil, All-tail}
use Rattle.std.proofs.lemmas.List.FromFn.{fill_by_all}
use Rattle.std.proofs.lemmas.Nat.{mod_below, mul-le}
use Rattle.tb_value.specs.Promise.Datum.{Datum, null}
use Rattle.tb_value.specs.Promise.Kind.{Kind}
use Rattle.tb_value.specs.Promise.Kind as kind
use Rattle.tb_value.specs.Promise.Names.{Name}
use Rattle.tb_value.specs.Promise.Pairs.{row_numbers}
use Rattle.tb_frame.specs.Promise.Table.{TableColumn, Table, height, names_of, IsTyped}
use Rattle.tb_frame.proofs.Causes.{selected_hold}
use Rattle.tb_label.specs.Promise.Label.{value_text}
use Rattle.tb_rows.specs.Promise.Rows.{row_value}
use Rattle.tb_unpivot.specs.Promise.Unpivot.{common_kind, kind_or_null, long_table, repeated, value_column, variable_column}
use Rattle.tb_frame.specs.Promise.Join.{columns_named}
use Rattle.tb_pivot.specs.Promise.Pivot.{are_alike, answer_rows, block_column, cell, cell_of, header_at, header_rows, index_column, wide}
use Rattle.tb_pivot.specs.Promise.Request.{Chosen, one_row}
use Rattle.tb_pivot.proofs.Texts.{map_twice}
use Rattle.tb_reshape.specs.Undo.{made_long, made_wide, AreOf, AreUndone}
use Rattle.tb_reshape.proofs.Lookups.{Differ, at_front, first_found, past}
use Rattle.tb_reshape.proofs.Places.{first_ones, first_of_each, one_row_each, small}
use Rattle.tb_reshape.proofs.Stacked.{IsHigh, one_kind_is, one_row_alike, repeated_alike, repeated_at, repeated_long, value_is, variable_alike, variable_at, variable_long}

module _ (index on : List TableColumn) (h : ℕ) (some : 0 < h) (k : Kind) (variable value separator : Name) (index_high : All (IsHigh h) index) (on_high : All (IsHigh h) on) (o : TableColumn) (columns : 0 < length on) (distinct : AllPairs (λ (x y : TableColumn). x.name ≢ y.name) on) (apart : (i j : ℕ) → i < h → j < h → are_alike index i j ≡ true → i ≡ j) (one : All (λ (c : TableColumn). c.kind ≡ k) on) (typed : All IsTyped on) where
  abbrev pub copies : List TableColumn
  copies = map (repeated (length on)) index

  abbrev pub names_column : TableColumn
  names_column = variable_column variable on

  abbrev pub values_column : TableColumn
  values_column = value_column value k on

  abbrev pub q : Chosen
  q = record { height = length on * h; on = names_column ∷ []; index = copies; values = values_column ∷ []; sorts = false; way = one_row; separator = separator }

  fits : h ≤ length on * h
  fits = let up : 1 * h ≤ length on * h = mul-le 1 h (length on) h (omega (arith, columns)) (omega arith) in omega (arith, up)

  pub by_row : (i j : ℕ) → i < length on * h → j < length on * h → are_alike copies i j ≡ eqb (i % h) (j % h)
  by_row i j low under = repeated_alike h some (length on) index index_high i j low under ∙ one_row_alike index h apart (i % h) (j % h) (mod_below i h some) (mod_below j h some)

  pub by_column : (i j : ℕ) → i < length on * h → j < length on * h → are_alike (names_column ∷ []) i j ≡ eqb (i / h) (j / h)
  by_column i j low under = variable_alike on h some on_high o distinct variable i j low under

  answers : answer_rows q ≡ row_numbers h
  answers = first_ones h some (length on) (are_alike copies) by_row fits

  headers : header_rows q ≡ map (λ a. a * h) (row_numbers (length on))
  headers = first_of_each h some (length on) (are_alike (names_column ∷ [])) by_column

  cell_back : (x a : ℕ) → x < h → a < length on → cell q values_column x (a * h) ≡ row_value (get_or on a o).values x
  cell_back x a low under =
      ap (cell_of q values_column) (one_row_each h some (length on) (are_alike copies) (are_alike (names_column ∷ [])) by_row by_column x a low under)
      ∙ value_is on h some on_high o k one typed value a x under low

  -- THE COLUMNS

  index_back : (c : TableColumn) → IsHigh h c → index_column q (repeated (length on) c) ≡ c
  index_back c high =
      let at : ℕ → Datum = row_value (repeated (length on) c).values in
      let back : map at (answer_rows q) ≡ c.values = ap (map at) answers ∙ sym (fill_by_all at c.values h null high (λ x low. sym (repeated_at h some (length on) c high x (omega (arith, low, fits)) ∙ ap (row_value c.values) (small h some x low)))) in
      λ t. record { name = c.name; kind = c.kind; values = back t }

  indexes_back : (cs : List TableColumn) → All (IsHigh h) cs → map (index_column q) (map (repeated (length on)) cs) ≡ cs
  indexes_back [] high = refl
  indexes_back (c ∷ cs) high =
      let here = index_back c (All-head (IsHigh h) c cs high) in
      let later = indexes_back cs (All-tail (IsHigh h) c cs high) in
      λ t. here t ∷ later t

  header_back : (a : ℕ) → a < length on → block_column q values_column (a * h) ≡ get_or on a o
  header_back a low =
      let c : TableColumn = get_or on a o in
      let place : a * h ≡ a * h + 0 = omega arith in
      let text : header_at q (a * h) ≡ c.name = ap value_text (ap (row_value names_column.values) place ∙ variable_at on h some on_high o variable a 0 low some) in
      let type : k ≡ c.kind = sym (All-get_or (λ (d : TableColumn). d.kind ≡ k) on a o low one) in
      let at : ℕ → Datum = λ x. cell q values_column x (a * h) in
      let back : map at (answer_rows q) ≡ c.values = ap (map at) answers ∙ sym (fill_by_all at c.values h null (All-get_or (IsHigh h) on a o low on_high) (λ x under. sym (cell_back x a under low))) in
      λ t. record { name = text t; kind = type t; values = back t }

  block_back : map (block_column q values_column) (header_rows q) ≡ on
  block_back =
      let make : ℕ → TableColumn = λ a. block_column q values_column (a * h) in
      ap (map (block_column q values_column)) headers
      ∙ map_twice (block_column q values_column) (λ a. a * h) (row_numbers (length on))
      ∙ sym (fill_by_all make on (length on) o refl (λ a low. sym (header_back a low)))

  pub wide_back : wide q ≡ index ++ on
  wide_back = λ t. indexes_back index index_high t ++ (append-nil (map (block_column q values_column) (header_rows q)) ∙ block_back) t

  -- THE REQUEST

  abbrev pub long : Table
  long = long_table k on index variable value

  pub height_is : (cs : List TableColumn) → All (IsHigh h) cs → height (map (repeated (length on)) cs ++ names_column ∷ values_column ∷ []) ≡ length on * h
  height_is [] high = variable_long on h some on_high o variable
  height_is (c ∷ cs) high = repeated_long h some (length on) c (All-head (IsHigh h) c cs high)

  pub names_kept : (cs : List TableColumn) → names_of cs ≡ names_of (map (repeated (length on)) cs)
  names_kept [] = refl
  names_kept (c ∷ cs) = ap (λ (ns : List Name). c.name ∷ ns) (names_kept cs)

  copies_differ : (n : Name) (cs : List TableColumn) → All (λ (m : Name). m ≢ n) (names_of cs) → All (Differ n) (map (repeated (length on)) cs)
  copies_differ n [] differ = All-nil (Differ n)
  copies_differ n (c ∷ cs) differ =
      let P : Name → Type 0 = λ m. m ≢ n in
      All-cons (Differ n) (repeated (length on) c) (map (repeated (length on)) cs) (All-head P c.name (names_of cs) differ) (copies_differ n cs (All-tail P c.name (names_of cs) differ))

  module _ (of_index : AllPairs (λ (a b : Name). a ≢ b) (names_of index)) (other : variable ≢ value) (no_variable : All (λ (n : Name). n ≢ variable) (names_of index)) (no_value : All (λ (n : Name). n ≢ value) (names_of index)) where
    pub index_found : columns_named long (names_of index) ≡ copies
    index_found =
        ap (columns_named long) (names_kept index)
        ∙ first_found copies (names_column ∷ values_column ∷ []) (subst (λ (ns : List Name). AllPairs (λ (a b : Name). a ≢ b) ns) (names_kept index) of_index)

    pub names_found : columns_named long (variable ∷ []) ≡ names_column ∷ []
    names_found = ap (λ (c : Option TableColumn). cons_option c []) (past variable copies (names_column ∷ values_column ∷ []) (copies_differ variable index no_variable) ∙ at_front names_column (values_column ∷ []))

    pub values_found : columns_named long (value ∷ []) ≡ values_column ∷ []
    values_found =
        ap (λ (c : Option TableColumn). cons_option c [])
        (past value copies (names_column ∷ values_column ∷ []) (copies_differ value index no_value)
        ∙ past value (names_column ∷ []) (values_column ∷ []) (All-cons (Differ value) names_column [] other (All-nil (Differ value)))
        ∙ at_front values_column [])

    pub long_back : made_wide long index variable value separator ≡ index ++ on
    long_back =
        (λ t. wide (record { height = height_is index index_high t; on = names_found t; index = index_found t; values = values_found t; sorts = false; way = one_row; separator = separator }))
        ∙ wide_back

-- what holds of the table's columns holds of some of them
pub some_hold : (P : TableColumn → Type 0) (t : Table) (cs : List TableColumn) → AreOf t cs → All P t → All P cs
some_hold P t cs are all = subst (λ (ds : List TableColumn). All P ds) are.found (selected_hold P t all (names_of cs))

pub undone : (t : Table) (index on : List TableColumn) (k : Kind) (variable value separator : Name) → AreUndone t index on k variable value → made_wide (made_long t index on variable value) index variable value separator ≡ index ++ on
undone t index [] k variable value separator law = absurd (let none = law.some in omega (arith, none))
undone t index (o ∷ os) k variable value separator law =
    let on : List TableColumn = o ∷ os in
    let type : kind_or_null (common_kind kind.null (columns_named t (names_of on))) ≡ k =
    ap (λ (cs : List TableColumn). kind_or_null (common_kind kind.null cs)) law.of_on.found ∙ ap kind_or_null (one_kind_is k on law.some law.one_kind) in
    let long : made_long t index on variable value ≡ long_table k on index variable value = λ i. long_table (type i) (law.of_on.found i) (law.of_index.found i) variable value in
    let distinct : AllPairs (λ (x y : TableColumn). x.name ≢ y.name) on = λ i j d less low e.
    law.of_on.distinct i j d.name less (omega (arith, low, length-map on (λ (c : TableColumn). c.name)))
    (get_or-map (λ (c : TableColumn). c.name) on i d d.name (omega (arith, less, low)) ∙ e ∙ sym (get_or-map (λ (c : TableColumn). c.name) on j d d.name low)) in
    ap (λ (l : Table). made_wide l index variable value separator) long
    ∙ long_back index on (height t) law.rows k variable value separator
    (some_hold (IsHigh (height t)) t index law.of_index law.table.one_height)
    (some_hold (IsHigh (height t)) t on law.of_on law.table.one_height)
    o law.some distinct law.one_row_each law.one_kind (some_hold IsTyped t on law.of_on law.table.typed)
    law.of_index.distinct law.names law.no_variable law.no_value
