-- What all parts give together is what is made of the groups of the whole table.
use Rattle.std.proofs.Common.{◌≡◌, ◌∙◌, ◌<◌, ◌≤◌, ℕ, ℤ, Bool, true, false, eqb, List, [], ◌∷◌, ◌++◌, filter, get_or, length, map, unwrap_or, refl, sym, ap, subst, arith}
use Rattle.std.specs.Cmp.{IsEquivalence}
use Rattle.std.specs.List.{All, flat_map}
use Rattle.std.specs.Prelude.{IsSome}
use Rattle.std.proofs.lemmas.List.{get_or-map, length-map, map-append}
use Rattle.std.proofs.lemmas.List.Elements.{All-append, All-filter, All-map, All-nil}
use Rattle.std.proofs.lemmas.List.FromFn.{length-range_with_len}
use Rattle.std.proofs.lemmas.List.Folds.{flat_map-map}
use Rattle.tb_value.proofs.Loops.{map-map}
use Rattle.tb_value.proofs.RowNumbers.{rows_below}
use Rattle.tb_value.specs.Promise.Datum.{Datum}
use Rattle.tb_value.specs.Promise.Kind as kind
use Rattle.tb_value.specs.Promise.Kind.{Kind}
use Rattle.tb_value.specs.Promise.Names.{Name}
use Rattle.tb_value.specs.Promise.Pairs.{row_numbers}
use Rattle.tb_value.specs.declared.limits.TheConstants.{MAX_ROWS}
use Rattle.tb_frame.specs.Promise.Table.{TableColumn}
use Rattle.tb_rows.specs.InGroups.{firsts_in, groups_in}
use Rattle.tb_rows.specs.Promise.Rows.{first_rows, row_value, same_rows}
use Rattle.tb_rows.proofs.FirstRows.{few_firsts, firsts_below}
use Rattle.tb_rows.proofs.FirstsIn.{firsts_of_all}
use Rattle.tb_agg.specs.Kept.{KeptView, all_joined, kept_at, kept_fits, kept_kind, kept_len, kept_of, kept_values, nothing, IsKeptFor}
use Rattle.tb_agg.specs.Promise.Aggregates.{aggregate, result_kind, sum_kind, total}
use Rattle.tb_agg.specs.Promise.Outcome.{are_in_range}
use Rattle.tb_agg.specs.declared.table.Aggregate.{Aggregate}
use Rattle.tb_agg.specs.declared.table.Aggregate.TheVariants.{First, Last, Sum, Min, Max, Count}
use Rattle.tb_agg.proofs.Keeping.{as_many, kept_all, kept_for, kept_taken, kind_is, made_at, values_are}
use Rattle.tb_build.specs.Promise.Plan.{part_rows}
use Rattle.tb_group.specs.Asked.{Asked}
use Rattle.tb_group.specs.Codes.{codes_by}
use Rattle.tb_group.specs.Order.{row_in, is_listed, IsOrder}
use Rattle.tb_group.specs.Parts.{has_work, part_view, PartView}
use Rattle.tb_group.specs.Promise.Refusal.{sums_fit}
use Rattle.tb_group.specs.Trace.{part_views, work_parts}
use Rattle.tb_group.specs.Whole.{all_firsts, gathered, made_column, placed, AreWhole, CanBeMade}
use Rattle.tb_group.proofs.Alike.{rows_equiv}
use Rattle.tb_group.proofs.KeyParts.{one_part, part_at, part_low, rows_are}
use Rattle.tb_group.proofs.PartRows.{part_firsts, part_groups}
use Rattle.tb_group.proofs.Spread.{firsts_in_order, kept_few, spread, spread_few}
use Rattle.tb_group.proofs.Works.{all_of_some, no_rows}

map-flat_map : {X Y Z : Type 0} (f : Y → Z) (g : X → List Y) (xs : List X) → map f (flat_map g xs) ≡ flat_map (λ x. map f (g x)) xs
map-flat_map f g [] = refl
map-flat_map {X} {Y} {Z} f g (x ∷ xs) = map-append f (g x) (flat_map g xs) ∙ ap (λ (l : List Z). map f (g x) ++ l) (map-flat_map f g xs)

-- for rows by these columns, in so many parts
module _ (cs : List TableColumn) (n parts : ℕ) (some : 1 ≤ parts) (asked : List Asked) where
  abbrev test : ℕ → ℕ → Bool
  test = same_rows (map (λ (c : TableColumn). c.values) cs)

  abbrev firsts : List ℕ
  firsts = first_rows test n

  abbrev members_of : ℕ → List ℕ
  members_of x = filter (test x) (row_numbers n)

  abbrev in_part : ℕ → ℕ → Bool
  in_part p j = eqb p (part_at cs parts j)

  abbrev views : List PartView
  views = part_views test asked (codes_by cs n) parts

  abbrev rows_of : ℕ → List ℕ
  rows_of p = part_rows (codes_by cs n) parts p

  -- the parts that have work
  abbrev works : ℕ → Bool
  works p = has_work p (rows_of p)

  abbrev busy : List ℕ
  busy = work_parts (codes_by cs n) parts

  same : IsEquivalence test
  same = rows_equiv (map (λ (c : TableColumn). c.values) cs)

  agree : (p x y : ℕ) → test x y ≡ true → in_part p x ≡ in_part p y
  agree p x y h = ap (eqb p) (one_part cs parts x y h)

  -- the groups of a part are those whose first row falls into it, and whole
  pub firsts_of : (p : ℕ) → firsts_in test (rows_of p) ≡ filter (in_part p) firsts
  firsts_of p =
      ap (firsts_in test) (rows_are cs parts n p)
      ∙ part_firsts test (in_part p) (agree p) (row_numbers n)
      ∙ ap (filter (in_part p)) (sym (firsts_of_all test same n))

  groups_of : (p : ℕ) → groups_in test (rows_of p) ≡ map members_of (filter (in_part p) firsts)
  groups_of p =
      ap (groups_in test) (rows_are cs parts n p)
      ∙ part_groups test (in_part p) (agree p) (row_numbers n)
      ∙ ap (λ (l : List ℕ). map members_of (filter (in_part p) l)) (sym (firsts_of_all test same n))

  -- what has no work has no group
  idle : (p : ℕ) → works p ≡ false → filter (in_part p) firsts ≡ []
  idle p none = sym (firsts_of p) ∙ ap (firsts_in test) (no_rows p (rows_of p) none)

  members_few : (x : ℕ) → length (members_of x) ≤ n
  members_few x = omega (arith, kept_few (test x) (row_numbers n), length-range_with_len 0 n)

  abbrev all : List ℕ
  all = spread (part_at cs parts) parts firsts

  pub all_are : all_firsts views ≡ all
  all_are =
      flat_map-map (λ (v : PartView). v.firsts) (λ p. part_view test asked (rows_of p)) busy
      ∙ (λ t. flat_map (λ p. firsts_of p t) busy)
      ∙ all_of_some works (λ p. filter (in_part p) firsts) idle (row_numbers parts)

  pub all_few : length (all_firsts views) ≤ n
  all_few = omega (arith, ap length all_are, spread_few (part_at cs parts) parts firsts, few_firsts test n)

  spread_low : (ps : List ℕ) → All (λ r. r < n) (flat_map (λ p. filter (in_part p) firsts) ps)
  spread_low [] = All-nil (λ r. r < n)
  spread_low (p ∷ ps) = All-append (λ r. r < n) (filter (in_part p) firsts) (flat_map (λ k. filter (in_part k) firsts) ps)
      (All-filter (in_part p) (λ r. r < n) firsts (firsts_below test n)) (spread_low ps)

  pub all_low : All (λ r. r < n) (all_firsts views)
  all_low = subst (λ (l : List ℕ). All (λ r. r < n) l) (sym all_are) (spread_low (row_numbers parts))

  -- places by which the first rows of all parts stand in order
  module _ (places : List ℕ) (order : IsOrder n (all_firsts views) places) where
    pub in_order : map (row_in (all_firsts views)) places ≡ firsts
    in_order = order.rows_are ∙ (λ t. filter (is_listed (all_are t)) (row_numbers n)) ∙ firsts_in_order (part_at cs parts) parts (part_low cs parts some) test n

    low : All (λ p. p < length all) places
    low = subst (λ (l : List ℕ). All (λ p. p < length l) places) all_are order.within

    at : map (row_in all) places ≡ firsts
    at = ap (λ (l : List ℕ). map (row_in l) places) (sym all_are) ∙ in_order

    -- of one of the aggregates
    module _ (k : ℕ) (a : Asked) (here : k < length asked) (is : a ≡ get_or asked k a) where
      abbrev sum : ℕ → ℤ
      sum x = total (map (row_value a.1.values) (members_of x))

      abbrev value : ℕ → Datum
      value x = aggregate a.0.agg (map (row_value a.1.values) (members_of x))

      abbrev agg : Aggregate
      agg = a.0.agg

      abbrev vs : List Datum
      vs = a.1.values

      abbrev whole : List (List ℕ)
      whole = map members_of firsts

      -- a part keeps of its groups what the aggregate needs
      of_part : (p : ℕ) → get_or (part_view test asked (rows_of p)).kept k (nothing agg) ≡ kept_of agg vs (map members_of (filter (in_part p) firsts))
      of_part p =
          let keep : Asked → KeptView = λ b. kept_of b.0.agg b.1.values (groups_in test (rows_of p)) in
          get_or-map keep asked k a (nothing agg) here
          ∙ ap keep (sym is)
          ∙ ap (kept_of agg vs) (groups_of p)

      flat : flat_map (λ (gs : List (List ℕ)). gs) (map (λ p. map members_of (filter (in_part p) firsts)) busy) ≡ map members_of all
      flat =
          flat_map-map (λ (gs : List (List ℕ)). gs) (λ p. map members_of (filter (in_part p) firsts)) busy
          ∙ sym (map-flat_map members_of (λ p. filter (in_part p) firsts) busy)
          ∙ ap (map members_of) (all_of_some works (λ p. filter (in_part p) firsts) idle (row_numbers parts))

      -- and all parts of all groups
      gathered_is : gathered agg k views ≡ kept_of agg vs (map members_of all)
      gathered_is =
          ap (all_joined agg) (map-map (λ (v : PartView). get_or v.kept k (nothing agg)) (λ p. part_view test asked (rows_of p)) busy
          ∙ (λ t. map (λ p. of_part p t) busy)
          ∙ sym (map-map (kept_of agg vs) (λ p. map members_of (filter (in_part p) firsts)) busy))
          ∙ kept_all agg vs (map (λ p. map members_of (filter (in_part p) firsts)) busy)
          ∙ ap (kept_of agg vs) flat

      groups_low : All (λ p. p < length (map members_of all)) places
      groups_low = subst (λ (m : ℕ). All (λ p. p < m) places) (sym (length-map all members_of)) low

      -- in the order of the groups
      placed_is : placed a k views places ≡ kept_of agg vs whole
      placed_is =
          ap (kept_at places) gathered_is
          ∙ kept_taken agg vs (map members_of all) places groups_low
          ∙ ap (kept_of agg vs) (made_at members_of all places 0 [] low ∙ ap (map members_of) at)

      -- the sums are in range exactly where those of the groups are
      pub fits_is : kept_fits a.1.kind (placed a k views places) ≡ sums_fit agg (sum_kind a.1.kind) (map sum firsts)
      fits_is = ap (kept_fits a.1.kind) placed_is ∙ by agg
        where
          by : (b : Aggregate) → kept_fits a.1.kind (kept_of b vs whole) ≡ sums_fit b (sum_kind a.1.kind) (map sum firsts)
          by First = refl
          by Last = refl
          by Min = refl
          by Max = refl
          by Count = refl
          by Sum = ap (are_in_range (sum_kind a.1.kind)) (map-map (λ rows. total (map (row_value vs) rows)) members_of firsts)

      module _ (taken : IsSome (result_kind agg a.1.kind)) where
        kinds_are : kept_kind a.1.kind (placed a k views places) ≡ result_kind agg a.1.kind
        kinds_are = ap (kept_kind a.1.kind) placed_is ∙ kind_is agg a.1.kind vs whole taken

        made_values : kept_values vs (placed a k views places) ≡ map value firsts
        made_values =
            ap (kept_values vs) placed_is
            ∙ values_are vs agg whole
            ∙ map-map (λ rows. aggregate agg (map (row_value vs) rows)) members_of firsts

        pub made_is : (name : Name) → made_column name a k views places ≡ record { name = name; kind = unwrap_or (result_kind agg a.1.kind) kind.null; values = map value firsts }
        made_is name = λ t. record { name = name; kind = unwrap_or (kinds_are t) kind.null; values = made_values t }

        -- a column can be made of it
        can_be : n ≤ MAX_ROWS → length vs ≡ n → CanBeMade places a k views
        can_be few level = record {
          there = All-map (λ (v : PartView). k < length v.kept) (λ p. part_view test asked (rows_of p)) busy (λ i d h.
              omega (arith, here, length-map asked (λ (b : Asked). kept_of b.0.agg b.1.values (groups_in test (rows_of (get_or busy i d))))));
          within = subst (λ (m : ℕ). All (λ p. p < m) places) (sym (ap kept_len gathered_is ∙ as_many agg vs (map members_of all))) groups_low;
          kept = subst (IsKeptFor (length vs)) (sym placed_is)
              (kept_for vs (length vs) whole
              (All-map (λ rows. All (λ j. j < length vs) rows) members_of firsts (λ i d h.
              subst (λ (m : ℕ). All (λ j. j < m) (members_of (get_or firsts i d))) (sym level) (All-filter (test (get_or firsts i d)) (λ j. j < n) (row_numbers n) (rows_below n))))
              (All-map (λ rows. length rows ≤ MAX_ROWS) members_of firsts (λ i d h. omega (arith, members_few (get_or firsts i d), few)))
              (omega (arith, length-map firsts members_of, few_firsts test n, few)) agg);
          taken = subst IsSome (sym kinds_are) taken;
        }

    pub whole_is : n ≤ MAX_ROWS → All (λ (a : Asked). length a.1.values ≡ n) asked → All (λ (a : Asked). IsSome (result_kind a.0.agg a.1.kind)) asked → AreWhole asked views places
    whole_is few level taken = record {
      each = λ k a here is. can_be k a here is
          (subst (λ (b : Asked). IsSome (result_kind b.0.agg b.1.kind)) (sym is) (taken k a here)) few
          (subst (λ (b : Asked). length b.1.values ≡ n) (sym is) (level k a here));
      short = omega (arith, order.few, few);
    }
