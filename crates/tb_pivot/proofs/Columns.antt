-- The columns of an answer, and when it is refused.
use Rattle.std.proofs.Common.{◌≡◌, ◌∙◌, ◌<◌, ◌≤◌, ◌+◌, ℕ, Bool, true, false, cond, List, [], ◌∷◌, ◌++◌, drop, get_or, length, map, take, Option, Some, None, inl, inr, refl, sym, ap, subst, arith}
use Rattle.std.specs.Prelude.{◌⊎◌}
use Rattle.std.specs.Borrow.{Bor}
use Rattle.std.specs.Option.{option_map}
use Rattle.std.specs.List.{All, find, flat_map}
use Rattle.std.specs.Cmp.Lexicographic.{on_texts, slice_cmp}
use Rattle.std.specs.Ordering.{nat_cmp}
use Rattle.std.proofs.lemmas.List.{append-nil, at_drop_more, get_or-map, length-map, map-append, map_push}
use Rattle.std.proofs.lemmas.List.Elements.{All-append, All-cons, All-head, All-nil, All-tail, All-weaker}
use Rattle.std.proofs.lemmas.List.FromFn.{fill_by_all}
use Rattle.tb_value.proofs.Loops.{map-map}
use Rattle.tb_value.proofs.RowNumbers.{row_numbers_more}
use Rattle.tb_value.specs.Promise.Datum.{Datum}
use Rattle.tb_value.specs.Promise.Names.{Name}
use Rattle.tb_value.specs.Promise.Pairs.{row_numbers}
use Rattle.tb_value.specs.Promise.Refusals.{first_cause, when}
use Rattle.tb_value.specs.declared.error.ComputeCause.TheVariants.{SumRange}
use Rattle.tb_value.specs.declared.error.PolarsError.{PolarsError}
use Rattle.tb_value.specs.declared.error.PolarsError.TheVariants.{ComputeError, OutOfMemory}
use Rattle.tb_value.specs.declared.limits.TheConstants.{MAX_ROWS}
use Rattle.tb_chunk.specs.Promise.Col.{Col, values}
use Rattle.tb_chunk.specs.Lent.{in_one_chunk, lent_columns}
use Rattle.tb_chunk.specs.Rows.{value_or_null}
use Rattle.tb_frame.specs.Frame.{frame_refusal, taken_rows}
use Rattle.tb_frame.specs.Promise.Refusal.{repeated_among}
use Rattle.tb_frame.specs.Promise.Table.{Table, TableColumn, by_name, names_of, plain_column, table_of}
use Rattle.tb_frame.proofs.Frames.{level_refusal}
use Rattle.tb_rows.specs.Promise.InOrder.{in_order}
use Rattle.tb_rows.specs.Promise.Rows.{row_value}
use Rattle.tb_rows.proofs.InOrder.{in_order-all, in_order-map}
use Rattle.tb_pivot.specs.Cells.{cells_under}
use Rattle.tb_pivot.specs.Promise.Headers.{block_name, header_text}
use Rattle.tb_pivot.specs.Layout.{answer_names, block_names, header_column, header_columns, index_and_blocks, laid_block, laid_out, IsLayout}
use Rattle.tb_pivot.specs.Made.{made_cause, takes, IsMade}
use Rattle.tb_pivot.specs.Promise.Pivot.{answer_rows, block, block_column, cell, header_at, header_rows, index_column, way_kind, wide, with_blocks}
use Rattle.tb_pivot.specs.Promise.Refusal.{answer_cause, is_out_of_range, many_cause, range_cause, value_causes, way_cause}
use Rattle.tb_pivot.specs.Promise.Request.{Chosen, Way, one_row, aggregated, asked}
use Rattle.tb_pivot.specs.declared.blocks.GroupValues.{GroupValues}
use Rattle.tb_pivot.specs.declared.blocks.Layout.{Layout}
use Rattle.tb_pivot.proofs.Cell.{cells_are, kind_is, made_high, rows_fit}
use Rattle.tb_pivot.proofs.Refused.{cause_is}

-- ONE MORE

pub number_more : {X Z : Type 0} (see : X → Z) (make : ℕ → Z) (before after : List X) (n : ℕ) (x : X) → after ≡ before ++ x ∷ [] → see x ≡ make n → map see before ≡ map make (row_numbers n) → map see after ≡ map make (row_numbers (n + 1))
number_more see make before after n x pushed same so_far =
    ap (map see) pushed ∙ map_push see before x
    ∙ (λ t. so_far t ++ same t ∷ [])
    ∙ sym (map_push make (row_numbers n) n)
    ∙ ap (map make) (sym (row_numbers_more n))

-- ROWS OF COLUMNS

pub rows_in : (cs : List (Bor Col)) (rows : List ℕ) (n : ℕ) → All (λ (c : Bor Col). length (values c.now) ≡ n) cs → All (λ r. r < n) rows → All (λ (c : Bor Col). All (λ r. r < length (values c.now)) rows) cs
rows_in cs rows n high low =
    All-weaker (λ (c : Bor Col). length (values c.now) ≡ n) (λ (c : Bor Col). All (λ r. r < length (values c.now)) rows) (λ c e. subst (λ (m : ℕ). All (λ r. r < m) rows) (sym e) low) cs high

pub each_has : (cs : List (Bor Col)) (rows : List ℕ) (n : ℕ) → All (λ (c : Bor Col). length (values c.now) ≡ n) cs → All (λ r. r < n) rows → All (λ r. All (λ (c : Bor Col). r < length (values c.now)) cs) rows
each_has cs rows n high low =
    All-weaker (λ r. r < n) (λ r. All (λ (c : Bor Col). r < length (values c.now)) cs) (λ r under.
    All-weaker (λ (c : Bor Col). length (values c.now) ≡ n) (λ (c : Bor Col). r < length (values c.now)) (λ c e. subst (λ (m : ℕ). r < m) (sym e) under) cs high) rows low

-- TWO CAUSES OF EACH COLUMN

module _ {X : Type 0} (p : X → Bool) (e : X → PolarsError) (w : X → Option PolarsError) (rest : List (Option PolarsError)) where
  abbrev both : X → Option PolarsError
  both x = first_cause (when (p x) (e x) ∷ w x ∷ [])

  none_of : (xs : List X) → ((x : X) → w x ≡ None) → first_cause (map w xs) ≡ None
  none_of [] none = refl
  none_of (x ∷ xs) none = ap (λ o. first_cause (o ∷ map w xs)) (none x) ∙ none_of xs none

  not_found : (xs : List X) → ((x : X) → p x ≡ false) → find p xs ≡ None
  not_found [] fails = refl
  not_found (x ∷ xs) fails = ap (λ b. cond b (Some x) (find p xs)) (fails x) ∙ not_found xs fails

  first_found : (xs : List X) → ((x : X) → w x ≡ None) → first_cause (map both xs) ≡ option_map e (find p xs)
  first_found [] none = refl
  first_found (x ∷ xs) none = ap (λ o. first_cause (first_cause (when (p x) (e x) ∷ o ∷ []) ∷ map both xs)) (none x) ∙ by (p x) (first_found xs none)
    where
      by : (b : Bool) → first_cause (map both xs) ≡ option_map e (find p xs) → first_cause (first_cause (when b (e x) ∷ None ∷ []) ∷ map both xs) ≡ option_map e (cond b (Some x) (find p xs))
      by true h = refl
      by false h = h

  second : (o : Option PolarsError) → first_cause (None ∷ o ∷ []) ≡ o
  second None = refl
  second (Some f) = refl

  second_ones : (xs : List X) → ((x : X) → p x ≡ false) → map both xs ≡ map w xs
  second_ones [] fails = refl
  second_ones (x ∷ xs) fails =
      let here : both x ≡ w x = ap (λ b. first_cause (when b (e x) ∷ w x ∷ [])) (fails x) ∙ second (w x) in
      let later : map both xs ≡ map w xs = second_ones xs fails in
      λ t. here t ∷ later t

  pub by_test : (xs : List X) → ((x : X) → w x ≡ None) → first_cause (option_map e (find p xs) ∷ first_cause (map w xs) ∷ rest) ≡ first_cause (first_cause (map both xs) ∷ rest)
  by_test xs none =
      ap (λ o. first_cause (option_map e (find p xs) ∷ o ∷ rest)) (none_of xs none) ∙ skip (option_map e (find p xs))
      ∙ ap (λ o. first_cause (o ∷ rest)) (sym (first_found xs none))
    where
      skip : (o : Option PolarsError) → first_cause (o ∷ None ∷ rest) ≡ first_cause (o ∷ rest)
      skip None = refl
      skip (Some f) = refl

  pub by_cause : (xs : List X) → ((x : X) → p x ≡ false) → first_cause (option_map e (find p xs) ∷ first_cause (map w xs) ∷ rest) ≡ first_cause (first_cause (map both xs) ∷ rest)
  by_cause xs fails =
      ap (λ o. first_cause (option_map e o ∷ first_cause (map w xs) ∷ rest)) (not_found xs fails)
      ∙ ap (λ os. first_cause (first_cause os ∷ rest)) (sym (second_ones xs fails))

-- the table where there is a value column
some_blocks : (q : Chosen) (vs : List TableColumn) → 0 < length vs → with_blocks q vs ≡ map (index_column q) q.index ++ flat_map (block q) vs
some_blocks q [] low = absurd (omega (arith, low))
some_blocks q (v ∷ vs) low = refl

-- THE COLUMNS OF A LAYOUT

-- values in one chunk make the same block
pub whole_block : (l : Layout) (v made whole : Col) → whole ≡ in_one_chunk made → laid_block l v whole ≡ laid_block l v made
whole_block l v made whole is =
    let of : List Datum → List TableColumn = λ vs. map (λ y. record { name = block_name (length l.columns.now.values.items) l.separator.now v.name (get_or l.texts.items y []); kind = made.kind; values = map (value_or_null vs) (cells_under l.cells y) }) (row_numbers (length l.texts.items)) in
    ap (laid_block l v) is ∙ ap (λ vs. cond l.sorts (in_order by_name (of vs)) (of vs)) (append-nil (values made))

module _ (l : Layout) (h : IsLayout l) where
  abbrev lent_values : List (Bor Col)
  lent_values = l.columns.now.values.items

  pub layout_rows : length l.cells.rows.firsts.items ≤ MAX_ROWS
  layout_rows = (rows_fit (table_of (lent_columns l.columns.now.index.items)) (table_of (lent_columns l.columns.now.on.items)) l.height l.cells h.cells h.few).few

  module _ (way : Way) where
    abbrev q : Chosen
    q = laid_out l way

    pub wide_is : 0 < length lent_values → wide q ≡ index_and_blocks q
    wide_is some = some_blocks q q.values (omega (arith, some, length-map (lent_columns lent_values) plain_column, length-map lent_values (λ (c : Bor Col). c.now)))

    -- the columns of the index
    pub index_is : (columns : List Col) → columns ≡ map (taken_rows l.cells.rows.firsts.items) (lent_columns l.columns.now.index.items) → table_of columns ≡ map (index_column q) q.index
    index_is columns is =
        let rows : List ℕ = l.cells.rows.firsts.items in
        let cs : List Col = lent_columns l.columns.now.index.items in
        let each : (c : Col) → plain_column (taken_rows rows c) ≡ index_column q (plain_column c) = λ c.
        ap (λ (vs : List Datum). record { name = c.name; kind = c.kind; values = vs }) (append-nil (map (row_value (values c)) rows) ∙ ap (map (row_value (values c))) h.cells.rows.firsts) in
        ap table_of is ∙ map-map plain_column (taken_rows rows) cs ∙ (λ t. map (λ c. each c t) cs) ∙ sym (map-map (index_column q) plain_column cs)

    -- there are as many texts as headers, and each is that of its header
    abbrev text_of : ℕ → Name
    text_of x = header_text (map (λ (c : Bor Col). row_value (values c.now) x) l.columns.now.on.items)

    texts_long : length l.texts.items ≡ length l.cells.headers.firsts.items
    texts_long = ap length h.texts ∙ length-map l.cells.headers.firsts.items text_of

    text_is : (y : ℕ) → y < length l.cells.headers.firsts.items → get_or l.texts.items y [] ≡ header_at q (get_or (header_rows q) y 0)
    text_is y low =
        let x : ℕ = get_or l.cells.headers.firsts.items y 0 in
        let on : List (Bor Col) = l.columns.now.on.items in
        let fields : map (λ (c : TableColumn). row_value c.values x) q.on ≡ map (λ (c : Bor Col). row_value (values c.now) x) on =
        map-map (λ (c : TableColumn). row_value c.values x) plain_column (lent_columns on) ∙ map-map (λ (c : Col). row_value (values c) x) (λ (c : Bor Col). c.now) on in
        ap (λ (ts : List Name). get_or ts y []) h.texts
        ∙ get_or-map text_of l.cells.headers.firsts.items y 0 [] low
        ∙ ap header_text (sym fields)
        ∙ ap (λ (rows : List ℕ). header_at q (get_or rows y 0)) h.cells.headers.firsts

    module _ (v made : Col) (high : length (values v) ≡ l.height) (is : IsMade way l.cells.groups v made) where
      column_is : (y : ℕ) → y < length l.cells.headers.firsts.items → header_column l v made y ≡ block_column q (plain_column v) (get_or (header_rows q) y 0)
      column_is y low =
          let width : length lent_values ≡ length q.values = sym (length-map (lent_columns lent_values) plain_column ∙ length-map lent_values (λ (c : Bor Col). c.now)) in
          let text : get_or l.texts.items y [] ≡ header_at q (get_or (header_rows q) y 0) = text_is y low in
          let kind : made.kind ≡ way_kind q (plain_column v) way = kind_is q l.cells v h.cells way made is in
          let cells : map (value_or_null (values made)) (cells_under l.cells y) ≡ map (λ x. cell q (plain_column v) x (get_or (header_rows q) y 0)) (answer_rows q) =
          cells_are q l.cells v h.cells high made y h.few is low ∙ ap (λ (rows : List ℕ). map (λ x. cell q (plain_column v) x (get_or rows y 0)) (answer_rows q)) h.cells.headers.firsts in
          λ t. record { name = block_name (width t) l.separator.now v.name (text t); kind = kind t; values = cells t }

      columns_are : header_columns l v made ≡ map (block_column q (plain_column v)) (header_rows q)
      columns_are =
          let make : ℕ → TableColumn = block_column q (plain_column v) in
          let long : length (header_rows q) ≡ length l.texts.items = sym (texts_long ∙ ap length h.cells.headers.firsts) in
          sym (fill_by_all (header_column l v made) (map make (header_rows q)) (length l.texts.items) (make 0) (length-map (header_rows q) make ∙ long) (λ k low.
          get_or-map make (header_rows q) k 0 (make 0) (omega (arith, low, long))
          ∙ sym (column_is k (omega (arith, low, texts_long)))))

      pub block_is : laid_block l v made ≡ block q (plain_column v)
      block_is = ap (λ (cs : List TableColumn). cond l.sorts (in_order by_name cs) cs) columns_are

    -- the blocks of the value columns
    pub blocks_are : (bs : List GroupValues) → All (λ (c : Bor Col). length (values c.now) ≡ l.height) (map (λ (b : GroupValues). b.value) bs) → All (λ (b : GroupValues). IsMade way l.cells.groups b.value.now b.made) bs
        → flat_map (λ (b : GroupValues). laid_block l b.value.now b.made) bs ≡ flat_map (block q) (table_of (lent_columns (map (λ (b : GroupValues). b.value) bs)))
    blocks_are [] high made = refl
    blocks_are (b ∷ bs) high made =
        let H : Bor Col → Type 0 = λ c. length (values c.now) ≡ l.height in
        let M : GroupValues → Type 0 = λ d. IsMade way l.cells.groups d.value.now d.made in
        let rest : List (Bor Col) = map (λ (d : GroupValues). d.value) bs in
        let here = block_is b.value.now b.made (All-head H b.value rest high) (All-head M b bs made) in
        let later = blocks_are bs (All-tail H b.value rest high) (All-tail M b bs made) in
        λ t. here t ++ later t

    -- there are as many values as groups in each
    pub values_high : (bs : List GroupValues) → All (λ (b : GroupValues). IsMade way l.cells.groups b.value.now b.made) bs → All (λ (b : GroupValues). length (values b.made) ≡ length l.cells.groups.firsts.items) bs
    values_high bs made = All-weaker (λ (b : GroupValues). IsMade way l.cells.groups b.value.now b.made) (λ (b : GroupValues). length (values b.made) ≡ length l.cells.groups.firsts.items) (λ b is. made_high way l.cells.groups b.value.now b.made is) bs made

    -- so what stands behind the index is the answer
    pub answer_is : (bs : List GroupValues) → map (λ (b : GroupValues). b.value) bs ≡ lent_values → All (λ (b : GroupValues). IsMade way l.cells.groups b.value.now b.made) bs
        → (t : Table) → t ≡ table_of (map (taken_rows l.cells.rows.firsts.items) (lent_columns l.columns.now.index.items)) ++ flat_map (λ (b : GroupValues). laid_block l b.value.now b.made) bs → t ≡ index_and_blocks q
    answer_is bs same made t is =
        let high : All (λ (c : Bor Col). length (values c.now) ≡ l.height) (map (λ (b : GroupValues). b.value) bs) =
        subst (λ (cs : List (Bor Col)). All (λ (c : Bor Col). length (values c.now) ≡ l.height) cs) (sym same) h.high.values in
        let first = index_is (map (taken_rows l.cells.rows.firsts.items) (lent_columns l.columns.now.index.items)) refl in
        let last = blocks_are bs high made in
        is ∙ (λ i. first i ++ last i) ∙ ap (λ (vs : List (Bor Col)). map (index_column q) q.index ++ flat_map (block q) (table_of (lent_columns vs))) same

    -- THE NAMES

    -- the texts are those of the headers
    texts_are : l.texts.items ≡ map (header_at q) (header_rows q)
    texts_are =
        let on : List (Bor Col) = l.columns.now.on.items in
        let same : (x : ℕ) → text_of x ≡ header_at q x = λ x.
        ap header_text (sym (map-map (λ (c : TableColumn). row_value c.values x) plain_column (lent_columns on) ∙ map-map (λ (c : Col). row_value (values c) x) (λ (c : Bor Col). c.now) on)) in
        h.texts ∙ (λ t. map (λ x. same x t) (h.cells.headers.firsts t))

    names_of_block : (v : TableColumn) → names_of (block q v) ≡ block_names l v.name
    names_of_block v = by l.sorts
      where
        width : length q.values ≡ length lent_values
        width = length-map (lent_columns lent_values) plain_column ∙ length-map lent_values (λ (c : Bor Col). c.now)

        plain_names : names_of (map (block_column q v) (header_rows q)) ≡ map (block_name (length lent_values) l.separator.now v.name) l.texts.items
        plain_names =
            map-map (λ (c : TableColumn). c.name) (block_column q v) (header_rows q)
            ∙ (λ t. map (λ y. block_name (width t) l.separator.now v.name (header_at q y)) (header_rows q))
            ∙ sym (map-map (block_name (length lent_values) l.separator.now v.name) (header_at q) (header_rows q))
            ∙ ap (map (block_name (length lent_values) l.separator.now v.name)) (sym texts_are)

        by : (b : Bool) → names_of (cond b (in_order by_name (map (block_column q v) (header_rows q))) (map (block_column q v) (header_rows q))) ≡ cond b (in_order (slice_cmp nat_cmp) (map (block_name (length lent_values) l.separator.now v.name) l.texts.items)) (map (block_name (length lent_values) l.separator.now v.name) l.texts.items)
        by true = in_order-map (λ (c : TableColumn). c.name) (slice_cmp nat_cmp) (map (block_column q v) (header_rows q)) ∙ ap (in_order (slice_cmp nat_cmp)) plain_names
        by false = plain_names

    names_of_blocks : (bs : List (Bor Col)) → names_of (flat_map (block q) (table_of (lent_columns bs))) ≡ flat_map (λ (c : Bor Col). block_names l c.now.name) bs
    names_of_blocks [] = refl
    names_of_blocks (b ∷ bs) =
        let here = names_of_block (plain_column b.now) in
        let later = names_of_blocks bs in
        map-append (λ (c : TableColumn). c.name) (block q (plain_column b.now)) (flat_map (block q) (table_of (lent_columns bs))) ∙ (λ t. here t ++ later t)

    pub names_are : names_of (index_and_blocks q) ≡ answer_names l
    names_are =
        let index : List (Bor Col) = l.columns.now.index.items in
        let name : TableColumn → Name = λ c. c.name in
        let first : names_of (map (index_column q) q.index) ≡ map (λ (c : Bor Col). c.now.name) index =
        map-map name (index_column q) q.index ∙ map-map name plain_column (lent_columns index) ∙ map-map (λ (c : Col). c.name) (λ (c : Bor Col). c.now) index in
        let last = names_of_blocks lent_values in
        map-append name (map (index_column q) q.index) (flat_map (block q) q.values) ∙ (λ t. first t ++ last t)

    -- a value column that is not refused is passed by
    pub passed_by : (i : ℕ) (b : Bor Col) → i < length lent_values → b ≡ get_or lent_values i b → made_cause way l.cells.groups b.now ≡ None
        → first_cause (map (made_cause way l.cells.groups) (lent_columns (drop i lent_values))) ≡ first_cause (map (made_cause way l.cells.groups) (lent_columns (drop (i + 1) lent_values)))
    passed_by i b low item none =
        at_drop_more (λ (bs : List (Bor Col)). first_cause (map (made_cause way l.cells.groups) (lent_columns bs))) lent_values i b low
        ∙ ap (λ (o : Option PolarsError). first_cause (o ∷ map (made_cause way l.cells.groups) (lent_columns (drop (i + 1) lent_values)))) (ap (λ (d : Bor Col). made_cause way l.cells.groups d.now) (sym item) ∙ none)

    -- THE REFUSAL

    -- the causes of the way
    both_causes : (w : Way) (vs rest : List _) → first_cause (option_map (λ (c : TableColumn). ComputeError (SumRange c.name)) (find (is_out_of_range q w) vs) ∷ first_cause (map (way_cause q w) vs) ∷ rest)
        ≡ first_cause (first_cause (map (λ (x : TableColumn). first_cause (when (is_out_of_range q w x) (ComputeError (SumRange x.name)) ∷ way_cause q w x ∷ [])) vs) ∷ rest)
    both_causes one_row vs rest = by_cause (is_out_of_range q one_row) (λ (c : TableColumn). ComputeError (SumRange c.name)) (way_cause q one_row) rest vs (λ x. refl)
    both_causes (aggregated agg) vs rest = by_test (is_out_of_range q (aggregated agg)) (λ (c : TableColumn). ComputeError (SumRange c.name)) (way_cause q (aggregated agg)) rest vs (λ x. refl)
    both_causes (asked name answers) vs rest = by_cause (is_out_of_range q (asked name answers)) (λ (c : TableColumn). ComputeError (SumRange c.name)) (way_cause q (asked name answers)) rest vs (λ x. refl)

    each_cause : (bs : List (Bor Col)) → All (λ (c : Bor Col). length (values c.now) ≡ l.height) bs → All (λ (c : Bor Col). takes way c.now.kind ≡ true) bs
        → map (λ (x : TableColumn). first_cause (when (is_out_of_range q way x) (ComputeError (SumRange x.name)) ∷ way_cause q way x ∷ [])) (table_of (lent_columns bs)) ≡ map (made_cause way l.cells.groups) (lent_columns bs)
    each_cause [] high taken_rows = refl
    each_cause (b ∷ bs) high taken_rows =
        let H : Bor Col → Type 0 = λ c. length (values c.now) ≡ l.height in
        let T : Bor Col → Type 0 = λ c. takes way c.now.kind ≡ true in
        let here = cause_is q l.cells b.now h.cells (All-head H b bs high) way (All-head T b bs taken_rows) in
        let later = each_cause bs (All-tail H b bs high) (All-tail T b bs taken_rows) in
        λ t. sym here t ∷ later t

    module _ (typed : All (λ (c : Bor Col). takes way c.now.kind ≡ true) lent_values) (one : many_cause q ≡ None) where
      abbrev made_causes : Option PolarsError
      made_causes = first_cause (map (made_cause way l.cells.groups) (lent_columns lent_values))

      values_decide : first_cause (value_causes q) ≡ first_cause (made_causes ∷ repeated_among (names_of (wide q)) ∷ [])
      values_decide =
          let last : List (Option PolarsError) = repeated_among (names_of (wide q)) ∷ [] in
          ap (λ (o : Option PolarsError). first_cause (o ∷ range_cause q ∷ answer_cause q ∷ last)) one
          ∙ both_causes way q.values last
          ∙ ap (λ (os : List (Option PolarsError)). first_cause (first_cause os ∷ last)) (each_cause lent_values h.high.values typed)

      pub made_stops : (e : PolarsError) → (e ≡ OutOfMemory) ⊎ (made_causes ≡ Some e) → (e ≡ OutOfMemory) ⊎ (first_cause (value_causes q) ≡ Some e)
      made_stops e (inl want) = inl want
      made_stops e (inr cause) = inr (values_decide ∙ ap (λ (o : Option PolarsError). first_cause (o ∷ repeated_among (names_of (wide q)) ∷ [])) cause)

      pub names_stop : 0 < length lent_values → made_causes ≡ None → (e : PolarsError) → (e ≡ OutOfMemory) ⊎ (repeated_among (answer_names l) ≡ Some e) → (e ≡ OutOfMemory) ⊎ (first_cause (value_causes q) ≡ Some e)
      names_stop some none e (inl want) = inl want
      names_stop some none e (inr cause) =
          inr (values_decide
          ∙ ap (λ (o : Option PolarsError). first_cause (o ∷ repeated_among (names_of (wide q)) ∷ [])) none
          ∙ ap (λ (ns : List Name). first_cause (repeated_among ns ∷ [])) (ap names_of (wide_is some) ∙ names_are)
          ∙ ap (λ (o : Option PolarsError). first_cause (o ∷ [])) cause)

      -- the columns of the answer are as high as it is, and so they are refused by their names alone
      abbrev IsHigh : TableColumn → Type 0
      IsHigh c = length c.values ≡ length (answer_rows q)

      index_high : (cs : List TableColumn) → All IsHigh (map (index_column q) cs)
      index_high [] = All-nil IsHigh
      index_high (c ∷ cs) = All-cons IsHigh (index_column q c) (map (index_column q) cs) (length-map (answer_rows q) (row_value c.values)) (index_high cs)

      headers_high : (v : TableColumn) (ys : List ℕ) → All IsHigh (map (block_column q v) ys)
      headers_high v [] = All-nil IsHigh
      headers_high v (y ∷ ys) = All-cons IsHigh (block_column q v y) (map (block_column q v) ys) (length-map (answer_rows q) (λ x. cell q v x y)) (headers_high v ys)

      block_high : (v : TableColumn) → All IsHigh (block q v)
      block_high v = by l.sorts
        where
          by : (b : Bool) → All IsHigh (cond b (in_order by_name (map (block_column q v) (header_rows q))) (map (block_column q v) (header_rows q)))
          by true = in_order-all by_name (on_texts (λ (c : TableColumn). c.name)) IsHigh (map (block_column q v) (header_rows q)) (headers_high v (header_rows q))
          by false = headers_high v (header_rows q)

      blocks_high : (vs : List TableColumn) → All IsHigh (flat_map (block q) vs)
      blocks_high [] = All-nil IsHigh
      blocks_high (v ∷ vs) = All-append IsHigh (block q v) (flat_map (block q) vs) (block_high v) (blocks_high vs)

      pub refused_by_names : (t : Table) → 0 < length lent_values → t ≡ index_and_blocks q → made_causes ≡ None → frame_refusal t ≡ first_cause (value_causes q)
      refused_by_names t some is none =
          ap frame_refusal is
          ∙ level_refusal (index_and_blocks q) (length (answer_rows q)) (All-append IsHigh (map (index_column q) q.index) (flat_map (block q) q.values) (index_high q.index) (blocks_high q.values)) (names_of (wide q)) (ap names_of (sym (wide_is some)))
          ∙ sym (values_decide ∙ ap (λ (o : Option PolarsError). first_cause (o ∷ repeated_among (names_of (wide q)) ∷ [])) none)
