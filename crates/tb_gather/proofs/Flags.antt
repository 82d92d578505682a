-- The flag of gathered values.
use Rattle.std.proofs.Common.{◌≡◌, ◌∙◌, ℕ, ◌<◌, ◌≤◌, inl, inr, not, Bool, true, false, List, length, map, get_or, refl, ap, sym, subst, Option, Some, None, arith}
use Rattle.std.specs.Prelude.{IsSome}
use Rattle.std.specs.List.{All, AllPairs}
use Rattle.std.specs.Ordering.{flip_args}
use Rattle.std.specs.declared.cmp.Ordering.{Ordering}
use Rattle.std.proofs.lemmas.List.{get_or-map, length-map, append-nil}
use Rattle.std.proofs.lemmas.List.Elements.{filter_passes, All-filter, All-map}
use Rattle.tb_value.specs.Promise.Datum.{Datum, null, is_null, is_present}
use Rattle.tb_value.specs.Promise.Kind.{Kind}
use Rattle.tb_value.specs.Promise.Typed.{HasType}
use Rattle.tb_value.specs.declared.sorted.IsSorted.{IsSorted}
use Rattle.tb_value.specs.declared.sorted.IsSorted.TheVariants.{Ascending, Descending, Not}
use Rattle.tb_chunk.specs.Promise.Col.{Col, concatenation, values}
use Rattle.tb_chunk.specs.Col.{IsColumn}
use Rattle.tb_cell.specs.Promise.Flag.{datum_cmp, nulls}
use Rattle.tb_chunk.specs.Flag.{present_values, IsOrdered, FlagHolds}
use Rattle.tb_chunk.specs.Rows.{IsRowOf, value_or_null}
use Rattle.tb_frame.specs.Frame.{lengths}
use Rattle.tb_gather.specs.Ids.{Id, AreAllInOrder, NamesRow, StandInOrder, IsRowUpTo, RowsStandInOrder, AreAllRowsInOrder, row_or_none}
use Rattle.tb_gather.specs.Gathered.{value_of_id, gathered_flag, gathered_column, named_rows, opt_gathered_column, NameRows}
use Rattle.tb_gather.specs.declared.keep.Keep.TheVariants.{Used}
use Rattle.tb_gather.proofs.Comparing.{IsOf, Orders, ascending-orders, descending-orders}
use Rattle.tb_gather.proofs.Cuts.{gathered-pick}
use Rattle.tb_gather.proofs.Naming.{named-row}
use Rattle.tb_gather.proofs.Running.{rows-run, rows-there}
use Rattle.tb_gather.proofs.Standing.{Stands, turned, nulls-first, nulls-last, ends-of-pairs, in-order-of-pairs}

-- any value stands right before any later one
AllStand : Bool → (Datum → Datum → Ordering) → List Datum → Type 0
AllStand first order vs = (i j : ℕ) → i ≤ j → j < length vs → Stands first order (get_or vs i null) (get_or vs j null)

module _ (order : Datum → Datum → Ordering) (t : Kind) (o : Orders order (IsOf t)) where
  all-stand : (vs : List Datum) → All (HasType t) vs → IsOrdered order t vs → (first : Bool) × AllStand first order vs
  unfolding AllStand
  all-stand vs typed h =
      let fit : All (IsOf t) (present_values vs) = λ k d low. (All-filter is_present (HasType t) vs typed k d low, filter_passes is_present vs k d low) in
      elim h.2 [
        | inl e ↦ (true, subst (AllStand true order) (sym e) (nulls-first order (IsOf t) o (nulls vs) (present_values vs) (filter_passes is_null vs) (filter_passes is_present vs) fit h.1))
        | inr e ↦ (false, subst (AllStand false order) (sym e) (nulls-last order (IsOf t) o (nulls vs) (present_values vs) (filter_passes is_null vs) (filter_passes is_present vs) fit h.1))
      ]

-- ROWS THAT RUN

-- the number of a row that is there
abbrev the_row : Option ℕ → ℕ
the_row None = 0
the_row (Some r) = r

row-value : (vs : List Datum) (row : Option ℕ) → IsSome row → value_or_null vs row ≡ get_or vs (the_row row) null
row-value vs None some = absurd (cc)
row-value vs (Some r) some = refl

row-low : (n : ℕ) (row : Option ℕ) → IsSome row → IsRowOf n row → the_row row < n
row-low n None some within = absurd (cc)
row-low n (Some r) some within = within

row-up : (a b : Option ℕ) → IsSome a → IsSome b → IsRowUpTo a b → the_row a ≤ the_row b
row-up None b some other up = absurd (cc)
row-up (Some r) None some other up = absurd (cc)
row-up (Some r) (Some s) some other up = up

module _ (vs : List Datum) (rows : List (Option ℕ)) (some : All (λ (row : Option ℕ). IsSome row) rows) (within : All (IsRowOf (length vs)) rows) where
  abbrev place : ℕ → ℕ
  place i = the_row (get_or rows i None)

  at : (i : ℕ) (d : Datum) → i < length rows → get_or (map (value_or_null vs) rows) i d ≡ get_or vs (place i) null
  at i d low = get_or-map (value_or_null vs) rows i None d low ∙ row-value vs (get_or rows i None) (some i None low)

  place-low : (i : ℕ) → i < length rows → place i < length vs
  place-low i low = row-low (length vs) (get_or rows i None) (some i None low) (within i None low)

  place-up : (i j : ℕ) → i < length rows → j < length rows → IsRowUpTo (get_or rows i None) (get_or rows j None) → place i ≤ place j
  place-up i j low high up = row-up (get_or rows i None) (get_or rows j None) (some i None low) (some j None high) up

  module _ (first : Bool) (order : Datum → Datum → Ordering) (stand : AllStand first order vs) where
    pairs-kept : AllPairs IsRowUpTo rows → AllPairs (Stands first order) (map (value_or_null vs) rows)
    unfolding AllStand
    pairs-kept runs = λ i j d low high.
        let n : length (map (value_or_null vs) rows) ≡ length rows = length-map rows (value_or_null vs) in
        let j-low : j < length rows = omega (arith, n) in
        let i-low : i < length rows = omega arith in
        rw (at i d i-low, at j d j-low) (stand (place i) (place j) (place-up i j i-low j-low (runs i j None low j-low)) (place-low j j-low))

    pairs-turned : AllPairs (λ (a b : Option ℕ). IsRowUpTo b a) rows → AllPairs (Stands (not first) (flip_args order)) (map (value_or_null vs) rows)
    unfolding AllStand
    pairs-turned runs = λ i j d low high.
        let n : length (map (value_or_null vs) rows) ≡ length rows = length-map rows (value_or_null vs) in
        let j-low : j < length rows = omega (arith, n) in
        let i-low : i < length rows = omega arith in
        rw (at i d i-low, at j d j-low) (turned first order (get_or vs (place j) null) (get_or vs (place i) null) (stand (place j) (place i) (place-up j i j-low i-low (runs i j None low j-low)) (place-low i i-low)))

  module _ (order : Datum → Datum → Ordering) (t : Kind) (o : Orders order (IsOf t)) (typed : All (HasType t) vs) (ordered : IsOrdered order t vs) where
    order-kept : AllPairs IsRowUpTo rows → IsOrdered order t (map (value_or_null vs) rows)
    order-kept runs =
        let s = all-stand order t o vs typed ordered in
        let pairs = pairs-kept s.0 order s.1 runs in
        (ordered.0, in-order-of-pairs s.0 order (map (value_or_null vs) rows) pairs, ends-of-pairs s.0 order (map (value_or_null vs) rows) pairs)

    order-turned : AllPairs (λ (a b : Option ℕ). IsRowUpTo b a) rows → IsOrdered (flip_args order) t (map (value_or_null vs) rows)
    order-turned runs =
        let s = all-stand order t o vs typed ordered in
        let pairs = pairs-turned s.0 order s.1 runs in
        (ordered.0, in-order-of-pairs (not s.0) (flip_args order) (map (value_or_null vs) rows) pairs, ends-of-pairs (not s.0) (flip_args order) (map (value_or_null vs) rows) pairs)

  flag-taken : (t : Kind) (flag sorted : IsSorted) → All (HasType t) vs → FlagHolds flag t vs → RowsStandInOrder sorted rows → FlagHolds (gathered_flag flag sorted) t (map (value_or_null vs) rows)
  flag-taken t Ascending Ascending typed holds runs = order-kept datum_cmp t (ascending-orders t holds.0) typed holds runs
  flag-taken t Ascending Descending typed holds runs = order-turned datum_cmp t (ascending-orders t holds.0) typed holds runs
  flag-taken t Descending Ascending typed holds runs = order-kept (flip_args datum_cmp) t (descending-orders t holds.0) typed holds runs
  flag-taken t Descending Descending typed holds runs = order-turned (flip_args datum_cmp) t (descending-orders t holds.0) typed holds runs
  flag-taken t Ascending Not typed holds runs = tt
  flag-taken t Descending Not typed holds runs = tt
  flag-taken t Not Ascending typed holds runs = tt
  flag-taken t Not Descending typed holds runs = tt
  flag-taken t Not Not typed holds runs = tt

flag-not : (flag : IsSorted) → gathered_flag flag Not ≡ Not
flag-not Ascending = refl
flag-not Descending = refl
flag-not Not = refl

pub flags-turned : (a b : IsSorted) → gathered_flag a b ≡ gathered_flag b a
flags-turned Ascending Ascending = refl
flags-turned Ascending Descending = refl
flags-turned Ascending Not = refl
flags-turned Descending Ascending = refl
flags-turned Descending Descending = refl
flags-turned Descending Not = refl
flags-turned Not Ascending = refl
flags-turned Not Descending = refl
flags-turned Not Not = refl

-- where values run in one direction and rows in one, what is taken by them runs so too
flag-of-taken : (c : Col) (rows : List (Option ℕ)) (sorted : IsSorted) → IsColumn c → All (IsRowOf (length (values c))) rows → AreAllRowsInOrder sorted rows → FlagHolds (gathered_flag c.flag sorted) c.kind (map (value_or_null (values c)) rows)
flag-of-taken c rows Ascending column within run = flag-taken (values c) rows run.0 within c.kind c.flag Ascending column.typed column.flag_holds run.1
flag-of-taken c rows Descending column within run = flag-taken (values c) rows run.0 within c.kind c.flag Descending column.typed column.flag_holds run.1
flag-of-taken c rows Not column within run = subst (λ (f : IsSorted). FlagHolds f c.kind (map (value_or_null (values c)) rows)) (sym (flag-not c.flag)) tt

pub flag-of-rows : (c : Col) (rows : List (Option ℕ)) (sorted : IsSorted) → IsColumn c → All (IsRowOf (length (values c))) rows → AreAllRowsInOrder sorted rows → FlagHolds (gathered_flag sorted c.flag) c.kind (map (value_or_null (values c)) rows)
flag-of-rows c rows sorted column within run =
    subst (λ (f : IsSorted). FlagHolds f c.kind (map (value_or_null (values c)) rows)) (flags-turned c.flag sorted) (flag-of-taken c rows sorted column within run)

-- IDS THAT RUN

flag-picked : (chunks : List (List Datum)) (ids : List Id) (some : All (λ (id : Id). IsSome id) ids) (named : All (NamesRow (lengths chunks)) ids) (t : Kind) (flag sorted : IsSorted) → All (HasType t) (concatenation chunks) → FlagHolds flag t (concatenation chunks) → StandInOrder sorted ids → FlagHolds (gathered_flag flag sorted) t (map (value_of_id chunks) ids)
flag-picked chunks ids some named t flag sorted typed holds runs =
    let rows = map (row_or_none (lengths chunks)) ids in
    subst (FlagHolds (gathered_flag flag sorted) t) (sym (gathered-pick chunks ids))
    (flag-taken (concatenation chunks) rows (rows-there (lengths chunks) ids some) (All-map (IsRowOf (length (concatenation chunks))) (row_or_none (lengths chunks)) ids (λ k d low. named-row chunks (get_or ids k d) (named k d low))) t flag sorted typed holds
    (rows-run (lengths chunks) ids some named sorted runs))

-- what a column's flag and the run of ids say of the gathered values
pub gathered-flag : (c : Col) (ids : List Id) (sorted : IsSorted) → IsColumn c → All (λ (id : Id). IsSome id) ids → NameRows ids c → StandInOrder sorted ids → FlagHolds (gathered_column ids sorted c).flag c.kind (values (gathered_column ids sorted c))
gathered-flag c ids sorted column some named runs =
    subst (FlagHolds (gathered_flag c.flag sorted) c.kind) (sym (append-nil (map (value_of_id c.chunks) ids)))
    (flag-picked c.chunks ids some named c.kind c.flag sorted column.typed column.flag_holds runs)

pub flag-of-named : (c : Col) (ids : List Id) (sorted flag : IsSorted) → IsColumn c → All (λ (id : Id). IsSome id) ids → NameRows ids c → StandInOrder sorted ids → flag ≡ gathered_flag c.flag sorted → FlagHolds flag c.kind (map (value_of_id c.chunks) ids)
flag-of-named c ids sorted flag column some named runs is =
    subst (λ (f : IsSorted). FlagHolds f c.kind (map (value_of_id c.chunks) ids)) (sym is) (flag-picked c.chunks ids some named c.kind c.flag sorted column.typed column.flag_holds runs)

-- the flag of what such ids gather is true
pub flag-of-run : (c : Col) (ids : List Id) (sorted flag : IsSorted) → IsColumn c → NameRows ids c → AreAllInOrder sorted ids → flag ≡ gathered_flag c.flag sorted → FlagHolds flag c.kind (map (value_of_id c.chunks) ids)
flag-of-run c ids Ascending flag column named run is = flag-of-named c ids Ascending flag column run.0 named run.1 is
flag-of-run c ids Descending flag column named run is = flag-of-named c ids Descending flag column run.0 named run.1 is
flag-of-run c ids Not flag column named run is = subst (λ (f : IsSorted). FlagHolds f c.kind (map (value_of_id c.chunks) ids)) (sym (is ∙ flag-not c.flag)) tt

pub are-run : (sorted : IsSorted) (ids : List Id) → All (λ (id : Id). IsSome id) ids → StandInOrder sorted ids → AreAllInOrder sorted ids
are-run Ascending ids some runs = (some, runs)
are-run Descending ids some runs = (some, runs)
are-run Not ids some runs = tt

-- with no direction of the ids, what is gathered has the flag Not
pub gathered-not : (ids : List Id) (cs : List Col) → map (gathered_column ids Not) cs ≡ map (opt_gathered_column ids) cs
gathered-not ids cs = ap (λ (f : Col → Col). map f cs) (λ i c. named_rows Used ids (flag-not c.flag i) c)
