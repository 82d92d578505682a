-- What is kept of groups, and what is made of it.
use Rattle.std.proofs.Common.{◌≡◌, ◌∙◌, ◌<◌, ◌≤◌, ◌++◌, ℕ, pos, Bool, true, false, cond, fold, List, [], ◌∷◌, length, map, Option, Some, None, refl, sym, ap, arith}
use Rattle.std.specs.List.{All, flat_map}
use Rattle.std.specs.Prelude.{IsSome}
use Rattle.std.proofs.lemmas.Int.{ints}
use Rattle.std.proofs.lemmas.List.{append-nil, append_assoc, get_or-map, length-map, map-append}
use Rattle.std.proofs.lemmas.List.Elements.{All-cons, All-head, All-map, All-nil, All-tail}
use Rattle.tb_value.proofs.Loops.{map-map}
use Rattle.tb_value.specs.Promise.Datum.{Datum, int}
use Rattle.tb_value.specs.Promise.Kind.{Kind}
use Rattle.tb_value.specs.Promise.Kind as kind
use Rattle.tb_value.specs.Promise.Pairs.{row_numbers}
use Rattle.tb_value.specs.Promise.SameKind.{is_key}
use Rattle.tb_value.specs.Promise.Typed.{HasType}
use Rattle.tb_value.specs.declared.limits.TheConstants.{MAX_ROWS}
use Rattle.tb_chunk.specs.Rows.{value_or_null, IsRowOf}
use Rattle.tb_rows.specs.Names.{AreNamed}
use Rattle.tb_rows.specs.Promise.Rows.{row_value}
use Rattle.tb_rows.specs.declared.groups.Groups.{Groups}
use Rattle.tb_rows.specs.declared.names.RowNames.{RowNames}
use Rattle.tb_rows.specs.declared.names.RowNames.TheVariants.{From, Listed}
use Rattle.tb_agg.specs.Grouped.{group_rows, rows_by_group, rows_of}
use Rattle.tb_agg.specs.Kept.{KeptView, all_joined, items_at, joined, kept_at, kept_kind, kept_len, kept_of, kept_values, picked, counted, summed, AreRowsKept, IsKeptFor}
use Rattle.tb_agg.specs.Picking.{aggregate_of, next_pick, picked_row, replaces}
use Rattle.tb_agg.specs.Promise.Aggregates.{aggregate, result_kind, total}
use Rattle.tb_agg.specs.declared.picks.Pick.{Pick}
use Rattle.tb_agg.specs.declared.picks.Pick.TheVariants.{FirstRow, LastRow, LeastValue, GreatestValue}
use Rattle.tb_agg.specs.declared.table.Aggregate.{Aggregate}
use Rattle.tb_agg.specs.declared.table.Aggregate.TheVariants.{First, Last, Sum, Min, Max, Count}
use Rattle.tb_agg.proofs.Picked.{pick_is, pick_more}

-- ROWS THAT ARE NAMED

-- the pick of the rows of a group, one row more
pub named_pick : (pick : Pick) (vs : List Datum) (name : ℕ → ℕ) (rows : List ℕ) (n : ℕ) (best : Option ℕ) → best ≡ picked_row pick vs (map name rows)
    → next_pick pick vs best (name n) ≡ picked_row pick vs (map name (rows ++ n ∷ []))
named_pick pick vs name rows n best is = pick_more vs pick (map name rows) (name n) best is ∙ sym (ap (picked_row pick vs) (map-append name rows (n ∷ [])))

-- as many rows have names as there are
pub counts_named : (name : ℕ → ℕ) (g : Groups) → map (λ k. length (rows_of g.numbers.items (length g.numbers.items) k)) (row_numbers (length g.firsts.items)) ≡ map (λ (rows : List ℕ). length rows) (rows_by_group name g)
counts_named name g =
    let ks : List ℕ = row_numbers (length g.firsts.items) in
    (λ t. map (λ k. sym (length-map (rows_of g.numbers.items (length g.numbers.items) k) name) t) ks)
    ∙ sym (map-map (λ (rows : List ℕ). length rows) (group_rows name g) ks)

-- rows that are named are few
pub named_few : (names : RowNames) (n : ℕ) → AreNamed names n → n ≤ MAX_ROWS
named_few (From first) n h = omega (arith, h)
named_few (Listed rows) n h = h.1

-- numbers of rows are of 32 bits
pub counts_typed : (counts : List ℕ) → All (λ n. n ≤ MAX_ROWS) counts → All (HasType kind.uint32) (map (λ n. int (pos n)) counts)
counts_typed counts few = All-map (HasType kind.uint32) (λ n. int (pos n)) counts (λ i d low. let h = few i d low in (omega (arith, ints), omega (arith, ints, h)))

-- WHAT IS MADE OF WHAT IS KEPT OF GROUPS

-- where columns of a type have the aggregate, it is of the aggregate's type
pub kind_is : (agg : Aggregate) (t : Kind) (vs : List Datum) (groups : List (List ℕ)) → IsSome (result_kind agg t) → kept_kind t (kept_of agg vs groups) ≡ result_kind agg t
kind_is First t vs groups some = refl
kind_is Last t vs groups some = refl
kind_is Min t vs groups some = key (is_key t) some
  where
    key : (b : Bool) → IsSome (cond b (Some t) None) → Some t ≡ cond b (Some t) None
    key true h = refl
    key false h = absurd (cc)
kind_is Max t vs groups some = key (is_key t) some
  where
    key : (b : Bool) → IsSome (cond b (Some t) None) → Some t ≡ cond b (Some t) None
    key true h = refl
    key false h = absurd (cc)
kind_is Count t vs groups some = refl
kind_is Sum t vs groups some = refl

module _ (vs : List Datum) where
  picks_are : (pick : Pick) (groups : List (List ℕ)) → map (value_or_null vs) (map (picked_row pick vs) groups) ≡ map (λ rows. aggregate (aggregate_of pick) (map (row_value vs) rows)) groups
  picks_are pick [] = refl
  picks_are pick (rows ∷ groups) = λ t. pick_is vs pick rows t ∷ picks_are pick groups t

  counts_are : (groups : List (List ℕ)) → map (λ n. int (pos n)) (map (λ (rows : List ℕ). length rows) groups) ≡ map (λ rows. aggregate Count (map (row_value vs) rows)) groups
  counts_are [] = refl
  counts_are (rows ∷ groups) = λ t. int (pos (sym (length-map rows (row_value vs)) t)) ∷ counts_are groups t

  -- its values are those of the groups
  pub values_are : (agg : Aggregate) (groups : List (List ℕ)) → kept_values vs (kept_of agg vs groups) ≡ map (λ rows. aggregate agg (map (row_value vs) rows)) groups
  values_are First groups = picks_are FirstRow groups
  values_are Last groups = picks_are LastRow groups
  values_are Min groups = picks_are LeastValue groups
  values_are Max groups = picks_are GreatestValue groups
  values_are Count groups = counts_are groups
  values_are Sum groups = map-map int (λ rows. total (map (row_value vs) rows)) groups

-- A COLUMN CAN BE MADE OF IT

-- a row that is picked is one of the rows
pub picked_row_of : (pick : Pick) (vs : List Datum) (m : ℕ) (best : Option ℕ) (rows : List ℕ) → IsRowOf m best → All (λ r. r < m) rows → IsRowOf m (fold (next_pick pick vs) best rows)
picked_row_of pick vs m best [] here low = here
picked_row_of pick vs m best (r ∷ rs) here low =
    picked_row_of pick vs m (next_pick pick vs best r) rs (by (replaces pick vs best r)) (All-tail (λ x. x < m) r rs low)
  where
    by : (b : Bool) → IsRowOf m (cond b (Some r) best)
    by true = All-head (λ x. x < m) r rs low
    by false = here

picks_kept : (vs : List Datum) (m : ℕ) (pick : Pick) (groups : List (List ℕ)) → All (λ rows. All (λ r. r < m) rows) groups → All (IsRowOf m) (map (picked_row pick vs) groups)
picks_kept vs m pick [] low = All-nil (IsRowOf m)
picks_kept vs m pick (rows ∷ groups) low =
    All-cons (IsRowOf m) (picked_row pick vs rows) (map (picked_row pick vs) groups)
    (picked_row_of pick vs m None rows tt (All-head (λ rs. All (λ r. r < m) rs) rows groups low))
    (picks_kept vs m pick groups (All-tail (λ rs. All (λ r. r < m) rs) rows groups low))

-- as much as there are groups
pub as_many : (agg : Aggregate) (vs : List Datum) (groups : List (List ℕ)) → kept_len (kept_of agg vs groups) ≡ length groups
as_many First vs groups = length-map groups (picked_row FirstRow vs)
as_many Last vs groups = length-map groups (picked_row LastRow vs)
as_many Min vs groups = length-map groups (picked_row LeastValue vs)
as_many Max vs groups = length-map groups (picked_row GreatestValue vs)
as_many Count vs groups = length-map groups (λ (rows : List ℕ). length rows)
as_many Sum vs groups = length-map groups (λ rows. total (map (row_value vs) rows))

-- of groups of few rows of a column
module _ (vs : List Datum) (m : ℕ) (groups : List (List ℕ)) (low : All (λ rows. All (λ r. r < m) rows) groups) (short : All (λ rows. length rows ≤ MAX_ROWS) groups) (few : length groups ≤ MAX_ROWS) where
  rows_kept : (agg : Aggregate) → AreRowsKept m (kept_of agg vs groups)
  rows_kept First = picks_kept vs m FirstRow groups low
  rows_kept Last = picks_kept vs m LastRow groups low
  rows_kept Min = picks_kept vs m LeastValue groups low
  rows_kept Max = picks_kept vs m GreatestValue groups low
  rows_kept Count = All-map (λ n. n ≤ MAX_ROWS) (λ (rows : List ℕ). length rows) groups short
  rows_kept Sum = tt

  pub kept_for : (agg : Aggregate) → IsKeptFor m (kept_of agg vs groups)
  kept_for agg = record { rows = rows_kept agg; few = omega (arith, as_many agg vs groups, few) }

-- WHAT IS KEPT OF SOME OF THE GROUPS

-- what is made of each item, at places
pub made_at : {X Y : Type 0} (f : X → Y) (xs : List X) (places : List ℕ) (d : X) (e : Y) → All (λ p. p < length xs) places → items_at e (map f xs) places ≡ map f (items_at d xs places)
made_at f xs [] d e low = refl
made_at f xs (p ∷ places) d e low =
    let here : p < length xs = All-head (λ k. k < length xs) p places low in
    let rest = made_at f xs places d e (All-tail (λ k. k < length xs) p places low) in
    λ t. get_or-map f xs p d e here t ∷ rest t

-- what is kept of these groups
pub kept_taken : (agg : Aggregate) (vs : List Datum) (groups : List (List ℕ)) (places : List ℕ) → All (λ p. p < length groups) places → kept_at places (kept_of agg vs groups) ≡ kept_of agg vs (items_at [] groups places)
kept_taken First vs groups places low = ap picked (made_at (picked_row FirstRow vs) groups places [] None low)
kept_taken Last vs groups places low = ap picked (made_at (picked_row LastRow vs) groups places [] None low)
kept_taken Min vs groups places low = ap picked (made_at (picked_row LeastValue vs) groups places [] None low)
kept_taken Max vs groups places low = ap picked (made_at (picked_row GreatestValue vs) groups places [] None low)
kept_taken Count vs groups places low = ap counted (made_at (λ (rows : List ℕ). length rows) groups places [] 0 low)
kept_taken Sum vs groups places low = ap summed (made_at (λ rows. total (map (row_value vs) rows)) groups places [] (pos 0) low)

-- WHAT IS KEPT SEVERAL TIMES

-- of groups and further ones
kept_more : (agg : Aggregate) (vs : List Datum) (gs hs : List (List ℕ)) → joined (kept_of agg vs gs) (kept_of agg vs hs) ≡ kept_of agg vs (gs ++ hs)
kept_more First vs gs hs = sym (ap picked (map-append (picked_row FirstRow vs) gs hs))
kept_more Last vs gs hs = sym (ap picked (map-append (picked_row LastRow vs) gs hs))
kept_more Min vs gs hs = sym (ap picked (map-append (picked_row LeastValue vs) gs hs))
kept_more Max vs gs hs = sym (ap picked (map-append (picked_row GreatestValue vs) gs hs))
kept_more Count vs gs hs = sym (ap counted (map-append (λ (rows : List ℕ). length rows) gs hs))
kept_more Sum vs gs hs = sym (ap summed (map-append (λ rows. total (map (row_value vs) rows)) gs hs))

kept_none : (agg : Aggregate) (vs : List Datum) → kept_of agg [] [] ≡ kept_of agg vs []
kept_none First vs = refl
kept_none Last vs = refl
kept_none Min vs = refl
kept_none Max vs = refl
kept_none Count vs = refl
kept_none Sum vs = refl

-- of several lists of groups, one behind another
pub kept_all : (agg : Aggregate) (vs : List Datum) (lists : List (List (List ℕ))) → all_joined agg (map (kept_of agg vs) lists) ≡ kept_of agg vs (flat_map (λ (gs : List (List ℕ)). gs) lists)
kept_all agg vs lists = ap (λ (k : KeptView). fold joined k (map (kept_of agg vs) lists)) (kept_none agg vs) ∙ behind [] lists
  where
    behind : (before : List (List ℕ)) (lists : List (List (List ℕ))) → fold joined (kept_of agg vs before) (map (kept_of agg vs) lists) ≡ kept_of agg vs (before ++ flat_map (λ (gs : List (List ℕ)). gs) lists)
    behind before [] = ap (kept_of agg vs) (sym (append-nil before))
    behind before (gs ∷ lists) =
        ap (λ (k : KeptView). fold joined k (map (kept_of agg vs) lists)) (kept_more agg vs before gs)
        ∙ behind (before ++ gs) lists
        ∙ ap (kept_of agg vs) (append_assoc before gs (flat_map (λ (l : List (List ℕ)). l) lists))
