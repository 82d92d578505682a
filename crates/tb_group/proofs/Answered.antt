-- What is answered is the grouped table of the request, with its trace, or its refusal.
use Rattle.std.proofs.Common.{◌≡◌, ◌∙◌, ◌<◌, ◌≤◌, ℕ, Bool, not, List, [], ◌∷◌, ◌++◌, append-nil, None, filter, get_or, length, map, unwrap_or, refl, sym, ap, subst, arith}
use Rattle.std.specs.Borrow.{Bor}
use Rattle.std.specs.List.{All, flat_map}
use Rattle.std.proofs.lemmas.List.{get_or-map, get_or_default, length-map, map-append, same_lists}
use Rattle.std.proofs.lemmas.List.Elements.{All-head}
use Rattle.std.proofs.lemmas.List.FromFn.{get_or-map-range_with_len, length-map-range_with_len}
use Rattle.tb_value.specs.Promise.Kind as kind
use Rattle.tb_value.specs.Promise.Names.{Name}
use Rattle.tb_value.specs.Promise.Pairs.{row_numbers}
use Rattle.tb_value.specs.Promise.Refusals.{first_cause, when}
use Rattle.tb_value.specs.declared.error.ComputeCause.TheVariants.{SumRange}
use Rattle.tb_value.specs.declared.error.PolarsError.TheVariants.{ComputeError}
use Rattle.tb_value.specs.declared.limits.TheConstants.{MAX_ROWS}
use Rattle.tb_chunk.specs.Changed.{taken_rows}
use Rattle.tb_chunk.specs.Lent.{lent_columns}
use Rattle.tb_chunk.specs.Promise.Col.{Col, values}
use Rattle.tb_frame.specs.Promise.Table.{Table, TableColumn, IsTyped, height, plain_column, table_of}
use Rattle.tb_frame.specs.Promise.Join.{column_named}
use Rattle.tb_frame.proofs.Causes.{selected_hold}
use Rattle.tb_rowkey.specs.Promise.Columns.{row_count}
use Rattle.tb_rows.specs.InGroups.{firsts_in, listed_test}
use Rattle.tb_rows.specs.Promise.Rows.{first_rows, row_value, same_rows}
use Rattle.tb_rows.proofs.Listed.{firsts_listed}
use Rattle.tb_agg.specs.Kept.{kept_fits}
use Rattle.tb_agg.specs.Promise.Aggregates.{aggregate, result_kind, sum_kind, total}
use Rattle.tb_agg.specs.declared.table.Aggregate.{Aggregate}
use Rattle.tb_build.specs.Promise.Plan.{part_rows, part_sizes}
use Rattle.tb_pool.specs.Promise.ExecView.{ExecView}
use Rattle.tb_group.specs.Asked.{Asked, asked_as, asked_list, asked_of}
use Rattle.tb_group.specs.Codes.{codes_by}
use Rattle.tb_group.specs.Order.{row_in, IsOrder}
use Rattle.tb_group.specs.Parts.{lent_test, PartView}
use Rattle.tb_group.specs.Promise.Group.{agg_column, alike, group_firsts, group_table, key_column, made_of}
use Rattle.tb_group.specs.Promise.Keys.{group_trace, key_count}
use Rattle.tb_group.specs.Promise.Refusal.{first_agg_cause, range_cause, sums_fit}
use Rattle.tb_group.specs.Promise.Request.{Request, by_columns}
use Rattle.tb_group.specs.Served.{AreSeated, AreServed, IsSeat, Wanted}
use Rattle.tb_group.specs.Trace.{part_views, trace_by}
use Rattle.tb_group.specs.Whole.{all_firsts, cause_at, made_cause, made_column, no_column, placed, placed_at, AreWhole, AreWholeAt}
use Rattle.tb_group.specs.declared.request.GroupAgg.{GroupAgg}
use Rattle.tb_group.proofs.Alike.{rows_equiv}
use Rattle.tb_group.proofs.KeyParts.{lent_same}
use Rattle.tb_group.proofs.Requests.{causes_of, columns_of}
use Rattle.tb_group.proofs.RowsByKeys.{by_keys}
use Rattle.tb_group.proofs.Together.{all_few, all_low, fits_is, in_order, made_is, whole_is}

-- what is made of each place of a list is what is made of each element
by_places : {X Y : Type 0} (f : ℕ → Y) (g : X → Y) (xs : List X) → ((k : ℕ) (x : X) → k < length xs → x ≡ get_or xs k x → f k ≡ g x) → map f (row_numbers (length xs)) ≡ map g xs
by_places f g [] same = refl
by_places {X} {Y} f g (x ∷ xs) same =
    let all : List X = x ∷ xs in
    let n : ℕ = length all in
    let long : length (map f (row_numbers n)) ≡ n = length-map-range_with_len f 0 n in
    same_lists (map f (row_numbers n)) (map g all) (long ∙ sym (length-map all g)) (λ k d below.
    let low : k < n = omega (arith, below, long) in
    get_or-map-range_with_len f 0 n k k d low (omega arith)
    ∙ same k (get_or all k x) low (get_or_default all k x (get_or all k x) low)
    ∙ sym (get_or-map g all k x d low))

-- rows that are taken of columns
taken_plain : (rows : List ℕ) (cs : List Col) → table_of (map (taken_rows rows) cs) ≡ map (λ (c : TableColumn). record c { values = map (row_value c.values) rows }) (table_of cs)
taken_plain rows [] = refl
taken_plain rows (c ∷ cs) = λ t. record { name = c.name; kind = c.kind; values = append-nil (map (row_value (values c)) rows) t } ∷ taken_plain rows cs t

table_more : (xs ys : List Col) → table_of (xs ++ ys) ≡ table_of xs ++ table_of ys
table_more xs ys = map-append plain_column xs ys

module _ (q : Request) (w : Wanted) (s : AreServed q w) where
  abbrev cs : List TableColumn
  cs = by_columns q

  abbrev n : ℕ
  n = w.height

  abbrev aggs : List Asked
  aggs = asked_of q.table q.aggs

  abbrev made_list : List Asked
  made_list = asked_list w.made

  abbrev seats : List ℕ
  seats = w.seats

  test_is : lent_test w.by ≡ alike q
  test_is = lent_same w.by ∙ ap (λ (t : Table). same_rows (map (λ (c : TableColumn). c.values) t)) s.by

  counted : (rs : List (Bor Col)) → table_of (lent_columns rs) ≡ cs → row_count (lent_columns rs) ≡ n
  counted [] e = absurd (omega (arith, s.some, ap length e))
  counted (r ∷ rs) e =
      let high : All (λ (c : TableColumn). length c.values ≡ height q.table) (table_of (lent_columns (r ∷ rs)))
      = subst (λ (t : Table). All (λ (c : TableColumn). length c.values ≡ height q.table) t) (sym e) (selected_hold (λ (c : TableColumn). length c.values ≡ height q.table) q.table s.table.one_height q.by) in
      All-head (λ (c : TableColumn). length c.values ≡ height q.table) (plain_column r.now) (table_of (lent_columns rs)) high ∙ sym s.high

  pub count_is : row_count (lent_columns w.by) ≡ n
  count_is = counted w.by s.by

  pub each_high : All (λ (c : TableColumn). length c.values ≡ n) cs
  each_high = subst (λ (m : ℕ). All (λ (c : TableColumn). length c.values ≡ m) cs) (sym s.high) (selected_hold (λ (c : TableColumn). length c.values ≡ height q.table) q.table s.table.one_height q.by)

  level : All (λ (a : Asked). length a.1.values ≡ n) made_list
  level = subst (λ (m : ℕ). All (λ (a : Asked). length a.1.values ≡ m) made_list) (sym s.high) s.level

  -- the seats, by the aggregates of the request
  seated : AreSeated aggs made_list seats
  seated = subst (λ (ps : List Asked). AreSeated ps made_list seats) s.asked s.seated

  pub many : length w.asked ≡ length aggs
  many = sym (length-map w.asked asked_as) ∙ ap length s.asked

  seats_low : All (λ seat. seat < length made_list) seats
  seats_low = λ k d low. at aggs refl k d (omega (arith, low, seated.many))
    where
      at : (ps : List Asked) → ps ≡ aggs → (k : ℕ) (d : ℕ) → k < length ps → get_or seats k d < length made_list
      at [] e k d low = absurd (omega (arith, low))
      at (p ∷ ps) e k d low =
          let under : k < length aggs = omega (arith, low, ap length e) in
          let seat : IsSeat made_list (get_or seats k 0) (get_or aggs k p) = seated.each k (get_or aggs k p) under (get_or_default aggs k p (get_or aggs k p) under) in
          subst (λ (m : ℕ). m < length made_list) (get_or_default seats k 0 d (omega (arith, under, seated.many))) seat.there

  module _ (parts : ℕ) (some : 1 ≤ parts) (views : List PartView)
      (are : views ≡ part_views (lent_test w.by) made_list (codes_by (table_of (lent_columns w.by)) (row_count (lent_columns w.by))) parts) where
    abbrev due : List PartView
    due = part_views (alike q) made_list (codes_by cs n) parts

    pub views_are : views ≡ due
    views_are = are ∙ (λ t. part_views (test_is t) made_list (codes_by (s.by t) (count_is t)) parts)

    pub firsts_few : length (all_firsts views) ≤ n
    firsts_few = subst (λ (vs : List PartView). length (all_firsts vs) ≤ n) (sym views_are) (all_few cs n parts some made_list)

    pub firsts_low : All (λ r. r < n) (all_firsts views)
    firsts_low = subst (λ (vs : List PartView). All (λ r. r < n) (all_firsts vs)) (sym views_are) (all_low cs n parts some made_list)

    module _ (places : List ℕ) (order : IsOrder n (all_firsts views) places) where
      ordered : IsOrder n (all_firsts due) places
      ordered = subst (λ (vs : List PartView). IsOrder n (all_firsts vs) places) views_are order

      pub are_whole : n ≤ MAX_ROWS → AreWholeAt made_list seats views places
      are_whole few = (subst (λ (vs : List PartView). AreWhole made_list vs places) (sym views_are) (whole_is cs n parts some made_list places ordered few level s.taken), seats_low)

      firsts_are : first_rows (alike q) n ≡ group_firsts q
      firsts_are = ap (first_rows (alike q)) s.high

      -- the first row of each group, in their order
      pub rows_are : map (row_in (all_firsts views)) places ≡ group_firsts q
      rows_are = ap (λ (vs : List PartView). map (row_in (all_firsts vs)) places) views_are ∙ in_order cs n parts some made_list places ordered ∙ firsts_are

      -- the one that is made for an aggregate
      module _ (k : ℕ) (a : Asked) (low : k < length aggs) (is : a ≡ get_or aggs k a) where
        abbrev seat : ℕ
        seat = get_or seats k 0

        abbrev own : Asked
        own = get_or made_list seat a

        has_seat : IsSeat made_list seat a
        has_seat = seated.each k a low is

        own_is : own ≡ get_or made_list seat own
        own_is = get_or_default made_list seat a own has_seat.there

        -- the sums of all groups fit, over so many rows
        abbrev fits_at : Aggregate → TableColumn → ℕ → Bool
        fits_at agg v m = sums_fit agg (sum_kind v.kind) (map (λ x. total (map (row_value v.values) (filter (alike q x) (row_numbers m)))) (first_rows (alike q) m))

        fits_are : kept_fits own.1.kind (placed own seat due places) ≡ fits_at a.0.agg a.1 (height q.table)
        fits_are =
            fits_is cs n parts some made_list places ordered seat own has_seat.there own_is
            ∙ (λ t. fits_at (has_seat.agg t) (has_seat.column t) (s.high t))

        -- the column, over so many rows
        abbrev made_at : Name → Aggregate → TableColumn → ℕ → TableColumn
        made_at name agg v m = record {
          name = name;
          kind = unwrap_or (result_kind agg v.kind) kind.null;
          values = map (λ x. aggregate agg (map (row_value v.values) (filter (alike q x) (row_numbers m)))) (first_rows (alike q) m);
        }

        placed_by : (name : Name) → made_column name own seat due places ≡ made_at name a.0.agg a.1 (height q.table)
        placed_by name =
            made_is cs n parts some made_list places ordered seat own has_seat.there own_is (s.taken seat a has_seat.there) name
            ∙ (λ t. made_at name (has_seat.agg t) (has_seat.column t) (s.high t))

        source_at : get_or (map (λ (b : Asked). b.0.column) aggs) k [] ≡ a.0.column
        source_at = get_or-map (λ (b : Asked). b.0.column) aggs k a [] low ∙ ap (λ (b : Asked). b.0.column) (sym is)

        answer_name : get_or (map (λ (b : Asked). b.0.name) aggs) k [] ≡ a.0.name
        answer_name = get_or-map (λ (b : Asked). b.0.name) aggs k a [] low ∙ ap (λ (b : Asked). b.0.name) (sym is)

        cause_is : cause_at aggs made_list seats due places k ≡ range_cause q a.0 a.1
        cause_is =
            get_or-map (λ (b : Asked). made_cause (get_or (map (λ (d : Asked). d.0.column) aggs) k []) b seat due places) made_list seat a None has_seat.there
            ∙ (λ t. when (not (fits_are t)) (ComputeError (SumRange (source_at t))))

        column_is : placed_at aggs made_list seats due places k ≡ agg_column q a.0 a.1
        column_is =
            get_or-map (λ (b : Asked). made_column (get_or (map (λ (d : Asked). d.0.name) aggs) k []) b seat due places) made_list seat a no_column has_seat.there
            ∙ placed_by (get_or (map (λ (b : Asked). b.0.name) aggs) k [])
            ∙ (λ t. made_at (answer_name t) a.0.agg a.1 (height q.table))

      pub causes_are : first_cause (map (cause_at (asked_list w.asked) made_list seats views places) (row_numbers (length w.asked))) ≡ first_agg_cause q (range_cause q)
      causes_are =
          (λ t. first_cause (map (cause_at (s.asked t) made_list seats (views_are t) places) (row_numbers (many t))))
          ∙ ap first_cause (by_places (cause_at aggs made_list seats due places) (λ (p : Asked). range_cause q p.0 p.1) aggs cause_is)
          ∙ sym (causes_of (range_cause q) q.table q.aggs)

      pub made_are : map (placed_at (asked_list w.asked) made_list seats views places) (row_numbers (length w.asked)) ≡ flat_map (λ (a : GroupAgg). made_of q a (column_named q.table a.column)) q.aggs
      made_are =
          (λ t. map (placed_at (s.asked t) made_list seats (views_are t) places) (row_numbers (many t)))
          ∙ by_places (placed_at aggs made_list seats due places) (λ (p : Asked). agg_column q p.0 p.1) aggs column_is
          ∙ sym (columns_of q q.aggs)

      -- the key columns and the made ones are the grouped table
      pub table_is : (rows : List ℕ) (made : List Col) → rows ≡ map (row_in (all_firsts views)) places
          → table_of made ≡ map (placed_at (asked_list w.asked) made_list seats views places) (row_numbers (length w.asked))
          → table_of (map (taken_rows rows) (lent_columns w.by) ++ made) ≡ group_table q
      table_is rows made at are_made =
          table_more (map (taken_rows rows) (lent_columns w.by)) made
          ∙ ap (λ (t : Table). t ++ table_of made) (taken_plain rows (lent_columns w.by) ∙ (λ t. map (λ (c : TableColumn). record c { values = map (row_value c.values) ((at ∙ rows_are) t) }) (s.by t)))
          ∙ ap (λ (t : Table). map (key_column q) cs ++ t) (are_made ∙ made_are)

  -- THE TRACE

  typed : All IsTyped cs
  typed = selected_hold IsTyped q.table s.table.typed q.by

  -- as many keys as there are groups
  keys_are : (rows : List ℕ) → length (firsts_in (alike q) rows) ≡ key_count cs rows
  keys_are rows =
      sym (ap length (firsts_listed (alike q) (rows_equiv (map (λ (c : TableColumn). c.values) cs)) rows))
      ∙ length-map (first_rows (listed_test rows (alike q)) (length rows)) (row_in rows)
      ∙ sym (λ t. length (first_rows (λ a b. by_keys (row_in rows a) (row_in rows b) cs typed s.keys t) (length rows)))

  pub trace_is : (exec : ExecView) → trace_by (lent_test w.by) (codes_by (table_of (lent_columns w.by)) (row_count (lent_columns w.by))) exec.partitions ≡ group_trace exec q
  trace_is exec =
      (λ t. trace_by (test_is t) (codes_by (s.by t) ((count_is ∙ s.high) t)) exec.partitions)
      ∙ (λ t. record {
        parts = exec.partitions;
        sizes = part_sizes (codes_by cs (height q.table)) exec.partitions;
        groups = map (λ p. keys_are (part_rows (codes_by cs (height q.table)) exec.partitions p) t) (row_numbers exec.partitions);
      })
