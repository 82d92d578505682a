-- The value of each cell is that of the group that stands in it.
use Rattle.std.proofs.Common.{◌≡◌, ◌∙◌, ◌<◌, ◌≤◌, ◌+◌, ◌-◌, ◌*◌, ℕ, zero, suc, Bool, true, false, ◌&&◌, cond, eqb, List, [], ◌∷◌, ◌++◌, drop, filter, get_or, length, map, Option, Some, None, Ok, Err, IsSomeAnd, ℤ, ⊎_elim, refl, sym, ap, subst, arith}
use Rattle.std.specs.Prelude.{Result, unwrap_or}
use Rattle.std.specs.List.{All}
use Rattle.std.proofs.lemmas.Bool.{and_parts, cases_lt, eq-eqb, eqb-true, eqb-false, ne_eqb}
use Rattle.std.proofs.lemmas.List.{append-nil, get_or_default, get_or-drop, get_or-map, get_or-take, length-drop, length-map, length-take-le, same_lists}
use Rattle.std.proofs.lemmas.List.Elements.{All-drop, All-get_or, All-map, All-same, All-take, filter_agree}
use Rattle.std.proofs.lemmas.List.Folds.{Any-from_list_any}
use Rattle.std.proofs.lemmas.List.FromFn.{get_or-map-range_with_len, get_or-range_with_len, length-map-range_with_len, length-range_with_len}
use Rattle.std.proofs.lemmas.Nat.{row_fits, same_from_place}
use Rattle.tb_value.specs.Promise.Datum.{Datum, null}
use Rattle.tb_value.specs.Promise.Kind.{Kind}
use Rattle.tb_value.specs.Promise.Kind as kind
use Rattle.tb_value.specs.Promise.Names.{Name}
use Rattle.tb_value.specs.Promise.Pairs.{row_numbers}
use Rattle.tb_value.specs.declared.error.ComputeCause.TheVariants.{EvaluateLength}
use Rattle.tb_value.specs.declared.error.PolarsError.{PolarsError}
use Rattle.tb_value.specs.declared.error.PolarsError.TheVariants.{ComputeError}
use Rattle.tb_value.specs.declared.limits.TheConstants.{MAX_ROWS}
use Rattle.tb_chunk.specs.Promise.Col.{Col, values}
use Rattle.tb_chunk.specs.Rows.{value_or_null, IsRowOf}
use Rattle.tb_frame.specs.Promise.Table.{TableColumn, Table, plain_column}
use Rattle.tb_rows.specs.Promise.Rows.{first_rows, group_of, row_value}
use Rattle.tb_rows.specs.declared.groups.Groups.{Groups}
use Rattle.tb_rows.proofs.FirstRows.{covered}
use Rattle.tb_agg.specs.Promise.Aggregates.{aggregate, result_kind, total}
use Rattle.tb_agg.specs.Grouped.{aggregates, rows_of, values_of, AreGroupsOf}
use Rattle.tb_agg.specs.Outcome.{totals, IsAggColumn}
use Rattle.tb_agg.specs.declared.table.Aggregate.{Aggregate}
use Rattle.tb_agg.specs.declared.table.Aggregate.TheVariants.{First}
use Rattle.tb_pivot.specs.Cells.{AreCells, cell_grid, cells_under}
use Rattle.tb_pivot.specs.Grid.{cell_at, group_cell, last_below}
use Rattle.tb_pivot.specs.Made.{IsMade}
use Rattle.tb_pivot.specs.Promise.Pivot.{are_alike, answer_at, answer_kind, answer_of, answer_rows, answered_column, cell, cell_of, distinct_rows, given_column, key_columns, value_for, way_kind}
use Rattle.tb_pivot.specs.Promise.Request.{Chosen, Way, one_row, aggregated, asked}
use Rattle.tb_pivot.specs.declared.cells.Cells.{Cells}
use Rattle.tb_pivot.proofs.Alike.{alike_equiv, both_alike, groups_fit}
use Rattle.tb_pivot.proofs.Members.{by_members, each_row, firsts_low, is_member, members, none_pass, number_is, some_pass}
use Rattle.tb_pivot.proofs.Placed.{number_low}

-- THE LAST THAT PASSES

none_more : (p : ℕ → Bool) (n : ℕ) → p n ≡ false → ((k : ℕ) → k < n → p k ≡ false) → (k : ℕ) → k < suc n → p k ≡ false
none_more p n e before k low = ⊎_elim (λ below. before k below) (λ high. let is : k ≡ n = omega (arith, low, high) in ap p is ∙ e) (cases_lt k n)

-- what holds of each that passes, and of none where none passes, holds of the last that does
at_last : (p : ℕ → Bool) (n : ℕ) (P : Option ℕ → Type 0) → ((k : ℕ) → k < n → p k ≡ true → P (Some k)) → (((k : ℕ) → k < n → p k ≡ false) → P None) → P (last_below p n)
at_last p zero P some none = none (λ k low. absurd (omega (arith, low)))
at_last p (suc n) P some none = by (p n) refl (at_last p n P (λ k low. some k (omega (arith, low))))
  where
    by : (b : Bool) → p n ≡ b → ((((k : ℕ) → k < n → p k ≡ false) → P None) → P (last_below p n)) → P (cond b (Some n) (last_below p n))
    by true e before = some n (omega arith) e
    by false e before = before (λ fail. none (none_more p n e fail))

-- it is below the end
last_row : (p : ℕ → Bool) (n : ℕ) → IsRowOf n (last_below p n)
last_row p n = at_last p n (IsRowOf n) (λ k low passes. low) (λ fail. cc)

-- two places of a grid are one where their rows and columns are
pub same_place : (h a b x y : ℕ) → a < h → x < h → eqb (b * h + a) (y * h + x) ≡ (eqb a x && eqb b y)
same_place h a b x y low under = by (eqb a x) refl (eqb b y) refl
  where
    by : (c : Bool) → eqb a x ≡ c → (d : Bool) → eqb b y ≡ d → eqb (b * h + a) (y * h + x) ≡ (c && d)
    by true e true f = eq-eqb (b * h + a) (y * h + x) (λ t. eqb-true b y f t * h + eqb-true a x e t)
    by true e false f = ne_eqb (b * h + a) (y * h + x) (λ same. eqb-false b y f (same_from_place b a y x h low under same).0)
    by false e d f = ne_eqb (b * h + a) (y * h + x) (λ same. eqb-false a x e (same_from_place b a y x h low under same).1)

-- THE GROUPS OF CELLS

module _ (index on : List TableColumn) (n : ℕ) (c : Cells) (cells : AreCells n index on c) (few : n ≤ MAX_ROWS) where
  pub cells_fit : AreGroupsOf n c.groups
  cells_fit = groups_fit (index ++ on) n c.groups cells.groups few

  pub rows_fit : AreGroupsOf n c.rows
  rows_fit = groups_fit index n c.rows cells.rows few

  -- the row of an index and that of a header are rows of the table, and so is the first one of a group
  pub groups_low : All (λ i. i < n) c.groups.firsts.items
  groups_low = firsts_low (are_alike (index ++ on)) (alike_equiv (index ++ on)) n c.groups cells.groups

  pub rows_low : All (λ i. i < n) c.rows.firsts.items
  rows_low = firsts_low (are_alike index) (alike_equiv index) n c.rows cells.rows

  pub headers_low : All (λ i. i < n) c.headers.firsts.items
  headers_low = firsts_low (are_alike on) (alike_equiv on) n c.headers cells.headers

  abbrev first_row : ℕ → ℕ
  first_row k = get_or c.groups.firsts.items k 0

  first_low : (k : ℕ) → k < length c.groups.firsts.items → first_row k < n
  first_low k low = All-get_or (λ i. i < n) c.groups.firsts.items k 0 low groups_low

  -- a group stands in a cell where its first row has the cell's index and header
  stands_in : (k x y : ℕ) → k < length c.groups.firsts.items → x < length c.rows.firsts.items → y < length c.headers.firsts.items
      → eqb (group_cell c.groups c.rows c.headers k) (cell_at (length c.rows.firsts.items) x y) ≡ (are_alike index (get_or c.rows.firsts.items x 0) (first_row k) && are_alike on (get_or c.headers.firsts.items y 0) (first_row k))
  stands_in k x y low row header =
      let i : ℕ = first_row k in
      let first : i < n = first_low k low in
      let a : ℕ = get_or c.rows.numbers.items i 0 in
      let b : ℕ = get_or c.headers.numbers.items i 0 in
      let at : a < length c.rows.firsts.items = number_low n i c.rows rows_fit first in
      let left : eqb a x ≡ are_alike index (get_or c.rows.firsts.items x 0) i = number_is (are_alike index) (alike_equiv index) n c.rows cells.rows i x first row in
      let right : eqb b y ≡ are_alike on (get_or c.headers.firsts.items y 0) i = number_is (are_alike on) (alike_equiv on) n c.headers cells.headers i y first header in
      same_place (length c.rows.firsts.items) a b x y at row ∙ (λ t. left t && right t)

  module _ (x y : ℕ) where
    abbrev in_cell : ℕ → Bool
    in_cell i = are_alike index x i && are_alike on y i

    -- a group that meets a cell is the cell
    cell_is_group : (i : ℕ) → in_cell i ≡ true → filter in_cell (row_numbers n) ≡ filter (are_alike (index ++ on) i) (row_numbers n)
    cell_is_group i meets =
        let both = and_parts (are_alike index x i) (are_alike on y i) meets in
        let rows : (j : ℕ) → are_alike index x j ≡ are_alike index i j = λ j. (alike_equiv index).congr x i j both.0 in
        let headers : (j : ℕ) → are_alike on y j ≡ are_alike on i j = λ j. (alike_equiv on).congr y i j both.1 in
        filter_agree in_cell (are_alike (index ++ on) i) (λ j. (λ t. rows j t && headers j t) ∙ sym (both_alike index on i j)) (row_numbers n)

    -- rows of one group are in the same cells
    in_cell_alike : (i j : ℕ) → are_alike (index ++ on) i j ≡ true → in_cell i ≡ in_cell j
    in_cell_alike i j same =
        let both = and_parts (are_alike index i j) (are_alike on i j) (sym (both_alike index on i j) ∙ same) in
        let rows : are_alike index x i ≡ are_alike index x j = (alike_equiv index).symm x i ∙ (alike_equiv index).congr i j x both.0 ∙ (alike_equiv index).symm j x in
        let headers : are_alike on y i ≡ are_alike on y j = (alike_equiv on).symm y i ∙ (alike_equiv on).congr i j y both.1 ∙ (alike_equiv on).symm j y in
        λ t. rows t && headers t

    -- a cell that no group meets has no rows
    cell_is_empty : ((k : ℕ) → k < length c.groups.firsts.items → in_cell (first_row k) ≡ false) → filter in_cell (row_numbers n) ≡ []
    cell_is_empty none =
        let test : ℕ → ℕ → Bool = are_alike (index ++ on) in
        none_pass in_cell (row_numbers n) (each_row (λ j. in_cell j ≡ false) n (λ j low.
        let a = Any-from_list_any (λ i. test i j) (first_rows test n) (covered test (alike_equiv (index ++ on)) n j low) in
        let here : a.0 < length c.groups.firsts.items = omega (arith, a.2, ap length cells.groups.firsts) in
        let is : first_row a.0 ≡ get_or (first_rows test n) a.0 0 = ap (λ (xs : List ℕ). get_or xs a.0 0) cells.groups.firsts in
        sym (in_cell_alike a.1 j a.4) ∙ ap in_cell (sym a.3 ∙ get_or_default (first_rows test n) a.0 a.1 0 a.2 ∙ sym is) ∙ none a.0 here))

  -- so what is made of the group in a cell's place is what is made of the cell's rows
  in_place : (made : List Datum) (of_rows : List ℕ → Datum) → of_rows [] ≡ null → ((k : ℕ) → k < length c.groups.firsts.items → get_or made k null ≡ of_rows (filter (are_alike (index ++ on) (first_row k)) (row_numbers n)))
      → (x y : ℕ) → x < length c.rows.firsts.items → y < length c.headers.firsts.items
      → value_or_null made (last_below (λ k. eqb (group_cell c.groups c.rows c.headers k) (cell_at (length c.rows.firsts.items) x y)) (length c.groups.firsts.items))
      ≡ of_rows (filter (λ i. are_alike index (get_or c.rows.firsts.items x 0) i && are_alike on (get_or c.headers.firsts.items y 0) i) (row_numbers n))
  in_place made of_rows empty each x y row header =
      let index_row : ℕ = get_or c.rows.firsts.items x 0 in
      let header_row : ℕ = get_or c.headers.firsts.items y 0 in
      let stands : ℕ → Bool = λ k. eqb (group_cell c.groups c.rows c.headers k) (cell_at (length c.rows.firsts.items) x y) in
      let value : Datum = of_rows (filter (λ i. are_alike index index_row i && are_alike on header_row i) (row_numbers n)) in
      at_last stands (length c.groups.firsts.items) (λ o. value_or_null made o ≡ value)
      (λ k low passes. each k low ∙ ap of_rows (sym (cell_is_group index_row header_row (first_row k) (sym (stands_in k x y low row header) ∙ passes))))
      (λ none. sym (ap of_rows (cell_is_empty index_row header_row (λ k low. sym (stands_in k x y low row header) ∙ none k low)) ∙ empty))

-- THE CELLS OF A HEADER

pub grid_long : (c : Cells) → length (cell_grid c) ≡ length c.headers.firsts.items * length c.rows.firsts.items
grid_long c = length-map-range_with_len (λ j. last_below (λ k. eqb (group_cell c.groups c.rows c.headers k) j) (length c.groups.firsts.items)) 0 (length c.headers.firsts.items * length c.rows.firsts.items)

grid_within : (c : Cells) → All (IsRowOf (length c.groups.firsts.items)) (cell_grid c)
grid_within c =
    let many : ℕ = length c.groups.firsts.items in
    let there : ℕ → Option ℕ = λ j. last_below (λ k. eqb (group_cell c.groups c.rows c.headers k) j) many in
    let numbers : List ℕ = row_numbers (length c.headers.firsts.items * length c.rows.firsts.items) in
    All-map (IsRowOf many) there numbers (λ k d low. last_row (λ i. eqb (group_cell c.groups c.rows c.headers i) (get_or numbers k d)) many)

-- they are groups, of which each has a value
pub under_within : (c : Cells) (y m : ℕ) (under : List (Option ℕ)) → m ≡ length c.groups.firsts.items → under ≡ cells_under c y → All (IsRowOf m) under
under_within c y m under long are =
    let height : ℕ = length c.rows.firsts.items in
    let start : ℕ = y * height in
    let many : ℕ = length c.groups.firsts.items in
    subst (λ (k : ℕ). All (IsRowOf k) under) (sym long)
    (All-same (IsRowOf many) under (cells_under c y) are
    (All-take (IsRowOf many) (start + height - start) (drop start (cell_grid c)) (All-drop (IsRowOf many) start (cell_grid c) (grid_within c))))

-- as many as the answer has rows
pub under_long : (c : Cells) (y : ℕ) → y < length c.headers.firsts.items → length (cells_under c y) ≡ length c.rows.firsts.items
under_long c y header =
    let height : ℕ = length c.rows.firsts.items in
    let start : ℕ = y * height in
    let span : start + height - start ≡ height = omega arith in
    let fits : start + height ≤ length c.headers.firsts.items * height = row_fits y height (length c.headers.firsts.items) height header (omega arith) in
    length-take-le (start + height - start) (drop start (cell_grid c)) (omega (arith, span, fits, length-drop start (cell_grid c), grid_long c)) ∙ span

under_is : (c : Cells) (x y : ℕ) → x < length c.rows.firsts.items → y < length c.headers.firsts.items
    → get_or (cells_under c y) x None ≡ last_below (λ k. eqb (group_cell c.groups c.rows c.headers k) (cell_at (length c.rows.firsts.items) x y)) (length c.groups.firsts.items)
under_is c x y row header =
    let height : ℕ = length c.rows.firsts.items in
    let start : ℕ = y * height in
    let fits : start + height ≤ length c.headers.firsts.items * height = row_fits y height (length c.headers.firsts.items) height header (omega arith) in
    let there : ℕ → Option ℕ = λ j. last_below (λ k. eqb (group_cell c.groups c.rows c.headers k) j) (length c.groups.firsts.items) in
    get_or-take (start + height - start) (drop start (cell_grid c)) x None (omega (arith, row))
    ∙ get_or-drop start (cell_grid c) x None
    ∙ get_or-map-range_with_len there 0 (length c.headers.firsts.items * height) (start + x) (start + x) None (omega (arith, fits, row)) (omega arith)

-- THE VALUES OF EACH WAY

-- as many as there are groups
abbrev values_in : Result TableColumn PolarsError → ℕ
values_in (Ok d) = length d.values
values_in (Err e) = 0

answer_high : (many : ℕ) (r : Result TableColumn ℕ) (made : Col) → given_column many r ≡ Ok (plain_column made) → length (values made) ≡ many
answer_high many (Err code) made is = absurd (cc)
answer_high many (Ok d) made is = by (eqb (length d.values) many) refl is
  where
    by : (b : Bool) → eqb (length d.values) many ≡ b → cond b (Ok d) (Err (ComputeError (EvaluateLength many (length d.values)))) ≡ Ok (plain_column made) → length (values made) ≡ many
    by true e same = sym (ap values_in same) ∙ eqb-true (length d.values) many e
    by false e same = absurd (cc)

asked_high : (name : Result Name ℕ) (answers : Table → List ℕ → List ℕ → Result TableColumn ℕ) (firsts numbers : List ℕ) (v : TableColumn) (made : Col) → answer_of firsts numbers v name answers ≡ Ok (plain_column made) → length (values made) ≡ length firsts
asked_high (Err code) answers firsts numbers v made is = absurd (cc)
asked_high (Ok n) answers firsts numbers v made is = answer_high (length firsts) (answers (record v { name = n } ∷ []) firsts numbers) made is

of_groups : (agg : Aggregate) (g : Groups) (v made : Col) (t : Kind) → IsAggColumn agg g v t made → values made ≡ aggregates agg g (values v)
of_groups agg g v made t is = ap values is ∙ append-nil (aggregates agg g (values v))

aggregates_high : (agg : Aggregate) (g : Groups) (v made : Col) (t : Kind) → IsAggColumn agg g v t made → length (values made) ≡ length g.firsts.items
aggregates_high agg g v made t is = ap length (of_groups agg g v made t is) ∙ length-map-range_with_len (λ k. aggregate agg (values_of g.numbers.items (values v) k)) 0 (length g.firsts.items)

pub made_high : (w : Way) (g : Groups) (v made : Col) → IsMade w g v made → length (values made) ≡ length g.firsts.items
made_high one_row g v made is = aggregates_high First g v made v.kind is
made_high (aggregated agg) g v made is = by (result_kind agg v.kind) is
  where
    by : (o : Option Kind) → IsSomeAnd o (λ t. IsAggColumn agg g v t made) → length (values made) ≡ length g.firsts.items
    by None h = absurd h
    by (Some t) h = aggregates_high agg g v made t h
made_high (asked name answers) g v made is = asked_high name answers g.firsts.items g.numbers.items (plain_column v) made is

module _ (q : Chosen) (c : Cells) (v : Col) (cells : AreCells q.height q.index q.on c) where
  -- what a caller's object answers
  pub answers_are : (name : Result Name ℕ) (answers : Table → List ℕ → List ℕ → Result TableColumn ℕ) → answered_column q (plain_column v) name answers ≡ answer_of c.groups.firsts.items c.groups.numbers.items (plain_column v) name answers
  answers_are name answers = λ t. answer_of (sym cells.groups.firsts t) (sym cells.groups.numbers t) (plain_column v) name answers

  -- the type of the values
  pub kind_is : (w : Way) (made : Col) → IsMade w c.groups v made → made.kind ≡ way_kind q (plain_column v) w
  kind_is one_row made is = ap (λ (d : Col). d.kind) is
  kind_is (aggregated agg) made is = by (result_kind agg v.kind) is
    where
      by : (o : Option Kind) → IsSomeAnd o (λ t. IsAggColumn agg c.groups v t made) → made.kind ≡ unwrap_or o kind.null
      by None h = absurd h
      by (Some t) h = ap (λ (d : Col). d.kind) h
  kind_is (asked name answers) made is = sym (ap answer_kind (answers_are name answers ∙ is))

  module _ (high : length (values v) ≡ q.height) where
    abbrev group_rows : ℕ → List ℕ
    group_rows k = filter (are_alike (key_columns q) (get_or c.groups.firsts.items k 0)) (row_numbers q.height)

    -- the sums of groups, by the first row of each
    pub totals_are : totals c.groups (values v) ≡ map (λ x. total (map (row_value (values v)) (filter (are_alike (key_columns q) x) (row_numbers q.height)))) (distinct_rows q (key_columns q))
    totals_are =
        let sum : List ℕ → ℤ = λ rows. total (map (row_value (values v)) rows) in
        ap (λ (n : ℕ). map (λ k. sum (rows_of c.groups.numbers.items n k)) (row_numbers (length c.groups.firsts.items))) high
        ∙ by_members (are_alike (key_columns q)) (alike_equiv (key_columns q)) q.height c.groups cells.groups sum
        ∙ ap (map (λ x. sum (filter (are_alike (key_columns q) x) (row_numbers q.height)))) cells.groups.firsts

    group_value : (agg : Aggregate) (made : Col) (t : Kind) (k i : ℕ) (rest : List ℕ) → IsAggColumn agg c.groups v t made → k < length c.groups.firsts.items → group_rows k ≡ i ∷ rest → get_or (values made) k null ≡ aggregate agg (map (row_value (values v)) (i ∷ rest))
    group_value agg made t k i rest is low rows =
        let of : List ℕ → Datum = λ js. aggregate agg (map (row_value (values v)) js) in
        ap (λ (ds : List Datum). get_or ds k null) (of_groups agg c.groups v made t is)
        ∙ get_or-map-range_with_len (λ j. aggregate agg (values_of c.groups.numbers.items (values v) j)) 0 (length c.groups.firsts.items) k k null low (omega arith)
        ∙ ap (λ (n : ℕ). of (rows_of c.groups.numbers.items n k)) high
        ∙ ap of (members (are_alike (key_columns q)) (alike_equiv (key_columns q)) q.height c.groups cells.groups k low ∙ rows)

    -- the value of a group is that of a cell with its rows
    way_value : (w : Way) (made : Col) → IsMade w c.groups v made → (k i : ℕ) (rest : List ℕ) → k < length c.groups.firsts.items → group_rows k ≡ i ∷ rest → are_alike (key_columns q) (get_or c.groups.firsts.items k 0) i ≡ true → get_or (values made) k null ≡ value_for q (plain_column v) w i (i ∷ rest)
    way_value one_row made is k i rest low rows member = group_value First made v.kind k i rest is low rows
    way_value (aggregated agg) made is k i rest low rows member = by (result_kind agg v.kind) is
      where
        by : (o : Option Kind) → IsSomeAnd o (λ t. IsAggColumn agg c.groups v t made) → get_or (values made) k null ≡ aggregate agg (map (row_value (values v)) (i ∷ rest))
        by None h = absurd h
        by (Some t) h = group_value agg made t k i rest h low rows
    way_value (asked name answers) made is k i rest low rows member =
        let place : ℕ = group_of (are_alike (key_columns q)) q.height i in
        let at : place ≡ k = eqb-true place k (is_member (are_alike (key_columns q)) (alike_equiv (key_columns q)) q.height c.groups cells.groups i k low ∙ member) in
        sym (ap (λ (r : Result TableColumn PolarsError). answer_at r place) (answers_are name answers ∙ is) ∙ ap (row_value (values made)) at)

    made_value : (made : Col) → IsMade q.way c.groups v made → (k : ℕ) → k < length c.groups.firsts.items → get_or (values made) k null ≡ cell_of q (plain_column v) (group_rows k)
    made_value made is k low =
        let first : ℕ = get_or c.groups.firsts.items k 0 in
        let test : ℕ → Bool = are_alike (key_columns q) first in
        let under : first < q.height = All-get_or (λ i. i < q.height) c.groups.firsts.items k 0 low (firsts_low (are_alike (key_columns q)) (alike_equiv (key_columns q)) q.height c.groups cells.groups) in
        let here : get_or (row_numbers q.height) first 0 ≡ first = omega (arith, get_or-range_with_len 0 q.height first 0 under) in
        let a = some_pass test (row_numbers q.height) first (omega (arith, under, length-range_with_len 0 q.height)) (ap test here ∙ (alike_equiv (key_columns q)).refl first) in
        way_value q.way made is k a.0 a.1 low a.2 a.3 ∙ ap (cell_of q (plain_column v)) (sym a.2)

    -- THE VALUES OF CELLS

    pub cells_are : (made : Col) (y : ℕ) → q.height ≤ MAX_ROWS → IsMade q.way c.groups v made → y < length c.headers.firsts.items → map (value_or_null (values made)) (cells_under c y) ≡ map (λ x. cell q (plain_column v) x (get_or c.headers.firsts.items y 0)) (answer_rows q)
    cells_are made y few is header =
        let found : Option ℕ → Datum = value_or_null (values made) in
        let value : ℕ → Datum = λ x. cell q (plain_column v) x (get_or c.headers.firsts.items y 0) in
        let long : length (cells_under c y) ≡ length c.rows.firsts.items = under_long c y header in
        same_lists (map found (cells_under c y)) (map value (answer_rows q)) (length-map (cells_under c y) found ∙ long ∙ ap length cells.rows.firsts ∙ sym (length-map (answer_rows q) value)) (λ k d below.
        let row : k < length c.rows.firsts.items = omega (arith, below, length-map (cells_under c y) found, long) in
        get_or-map found (cells_under c y) k None d (omega (arith, row, long))
        ∙ ap found (under_is c k y row header)
        ∙ in_place q.index q.on q.height c cells few (values made) (cell_of q (plain_column v)) refl (made_value made is) k y row header
        ∙ ap (λ (xs : List ℕ). value (get_or xs k 0)) cells.rows.firsts
        ∙ sym (get_or-map value (answer_rows q) k 0 d (omega (arith, row, ap length cells.rows.firsts))))
