-- What is kept between steps is kept by one more step.
use Rattle.std.proofs.Common.{◌≡◌, inl, inr, ℕ, ◌+◌, ◌<◌, Bool, true, false, cond, nat_eq, ◌&&◌, if◌then◌else◌, List, [], ◌∷◌, ◌++◌, Option, Some, None, Ok, Err, refl, ap, arith, sym, ◌∙◌, subst, ⊎_elim}
use Rattle.std.specs.Prelude.{All, AllPairs, IsSome, option_map, unwrap_or}
use Rattle.std.specs.Cmp.{first_so}
use Rattle.std.specs.Map.{lookup}
use Rattle.std.specs.declared.vec.Vec.{Vec}
use Rattle.std.specs.declared.alloc.Global.{Global}
use Rattle.std.proofs.lemmas.Bool.{cases_Bool}
use Rattle.std.proofs.lemmas.List.Elements.{All-tail, All-weaker}
use Rattle.tb_value.specs.Promise.Datum.{Datum}
use Rattle.tb_value.specs.Promise.Same.{agrees}
use Rattle.tb_value.specs.Promise.Typed.{FitsFields}
use Rattle.tb_value.specs.See.{datum}
use Rattle.tb_value.specs.declared.error.Side.{Side}
use Rattle.tb_value.specs.declared.error.Side.TheVariants as side
use Rattle.tb_value.specs.declared.limits.TheConstants.{MAX_ROWS}
use Rattle.tb_delta.specs.Changing.{IsChanging, of_both}
use Rattle.tb_delta.specs.Groups.{ids_at, is_side, without, without_all}
use Rattle.tb_delta.specs.Inside.{AreRows, IsKept, IsPlaced, IsView, agreeing, key_of, pulled_agrees, side_state, state_of}
use Rattle.tb_delta.specs.Late.{ids_left, AreBelow, IsTakenOut, KeepsIds}
use Rattle.tb_delta.specs.Promise.Now.{partners}
use Rattle.tb_delta.specs.Promise.State.{Row, SideState, appended, on_side, other, row_of, taken_out}
use Rattle.tb_delta.specs.Promise.Steps.{insert, remove}
use Rattle.tb_delta.specs.Running.{IsDone, IsRefused}
use Rattle.tb_delta.specs.Stepped.{IsChecked}
use Rattle.tb_delta.specs.declared.fault.DeltaFault.{DeltaFault}
use Rattle.tb_delta.specs.declared.fault.DeltaFault.TheVariants as fault
use Rattle.tb_delta.specs.declared.groups.Groups.{Groups}
use Rattle.tb_delta.specs.declared.key.RowKey.{RowKey}
use Rattle.tb_delta.specs.declared.late.LateGroups.{LateGroups}
use Rattle.tb_delta.specs.declared.side_rows.SideRows.{SideRows}
use Rattle.tb_delta.proofs.Gone.{none_gone}
use Rattle.tb_delta.proofs.Grouped.{ascending_after, side_is}
use Rattle.tb_delta.proofs.KeptViews.{groups_ascend, groups_below, kept_left, kept_right, kept_same}
use Rattle.tb_delta.proofs.LateIds.{emptied_below, more_below, none_pass, put_at}
use Rattle.tb_delta.proofs.Partners.{partners_are}
use Rattle.tb_delta.proofs.PulledViews.{absent_row, pulled_left, pulled_right}

-- THE SIDES

pub from_left : (l r : SideRows) (n : Bool) (gs : LateGroups) → IsChanging side.Left l r n gs → IsChanging side.Right r l n gs
from_left l r n gs x = record { kept = x.kept; own_placed = x.others_placed; others_placed = x.own_placed; ascend = x.ascend; own_below = x.others_below; others_below = x.own_below }

pub from_right : (l r : SideRows) (n : Bool) (gs : LateGroups) → IsChanging side.Right r l n gs → IsChanging side.Left l r n gs
from_right l r n gs x = record { kept = x.kept; own_placed = x.others_placed; others_placed = x.own_placed; ascend = x.ascend; own_below = x.others_below; others_below = x.own_below }

pub own_rows : (s : Side) (own others : SideRows) (n : Bool) (gs : LateGroups) → IsChanging s own others n gs → AreRows (side_state own)
own_rows side.Left own others n gs x = x.kept.left
own_rows side.Right own others n gs x = x.kept.right

others_grouped : (s : Side) (own others : SideRows) (n : Bool) (gs : LateGroups) → IsChanging s own others n gs → (k : RowKey) → ids_left gs (other s) k ≡ agreeing n (side_state others) (datum k.value)
others_grouped side.Left own others n gs x k = x.kept.grouped side.Right k
others_grouped side.Right own others n gs x k = x.kept.grouped side.Left k

apart : (s : Side) → is_side s (other s) ≡ false
apart side.Left = refl
apart side.Right = refl

-- THE IDS UNDER A KEY ARE THE SAME

both_same : (s : Side) (own new others : SideRows) (n : Bool) → side_state new ≡ side_state own → of_both s new others n ≡ of_both s own others n
both_same side.Left own new others n e = ap (λ (t : SideState). record { left = t; right = side_state others; join_nulls = n }) e
both_same side.Right own new others n e = ap (λ (t : SideState). record { left = side_state others; right = t; join_nulls = n }) e

pub kept_ids : (s : Side) (own others : SideRows) (n : Bool) (gs new : LateGroups) → IsChanging s own others n gs → KeepsIds gs new → IsChanging s own others n new
kept_ids s own others n gs new x h = record {
  kept = kept_same (of_both s own others n) (of_both s own others n) (ids_left gs) (ids_left new) x.kept refl h.ids;
  own_placed = x.own_placed;
  others_placed = x.others_placed;
  ascend = h.ascend;
  own_below = h.below s own.ever x.own_below;
  others_below = h.below (other s) others.ever x.others_below;
}

at_bound : (gs : LateGroups) (s : Side) (m n : ℕ) → n ≡ m → AreBelow gs s m → AreBelow gs s n
at_bound gs s m n e h = subst (λ (b : ℕ). AreBelow gs s b) (sym e) h

-- rows that are the same leave all
pub unmoved : (s : Side) (own new others : SideRows) (n : Bool) (gs : LateGroups) → IsChanging s own others n gs → IsPlaced new → side_state new ≡ side_state own → IsChanging s new others n gs
unmoved s own new others n gs x placed rows = record {
  kept = kept_same (of_both s own others n) (of_both s new others n) (ids_left gs) (ids_left gs) x.kept (both_same s own new others n rows) (λ d k. refl);
  own_placed = placed;
  others_placed = x.others_placed;
  ascend = x.ascend;
  own_below = at_bound gs s own.ever new.ever (ap (λ (t : SideState). t.ever) rows) x.own_below;
  others_below = x.others_below;
}

-- a row that is not put leaves all
pub unchanged : (s : Side) (own new others : SideRows) (n : Bool) (gs : LateGroups) (groups : Groups) → IsChanging s own others n gs → IsPlaced new → side_state new ≡ side_state own
    → ((d : Side) (k : RowKey) → ids_at groups d k ≡ ids_at gs.groups d k) → IsChanging s new others n (record { groups = groups; gone = gs.gone })
unchanged s own new others n gs groups x placed rows stay = record {
  kept = kept_same (of_both s own others n) (of_both s new others n) (ids_left gs) (ids_left late) x.kept (both_same s own new others n rows) (λ d k. ap (λ (l : List ℕ). without_all (ids_at gs.gone d k) l) (stay d k));
  own_placed = placed;
  others_placed = x.others_placed;
  ascend = λ d k. subst (λ (l : List ℕ). AllPairs ◌<◌ l) (sym (stay d k)) (x.ascend d k);
  own_below = at_bound late s own.ever new.ever (ap (λ (t : SideState). t.ever) rows) (below s own.ever x.own_below);
  others_below = below (other s) others.ever x.others_below;
}
  where
    late : LateGroups
    late = record { groups = groups; gone = gs.gone }

    below : (d : Side) (m : ℕ) → AreBelow gs d m → AreBelow late d m
    below d m h k = (emptied_below false m (ids_at gs.groups d k) (ids_at groups d k) (stay d k) (h k).0, (h k).1)

-- A ROW IS PUT LAST

module _ (own others new : SideRows) (n : Bool) (gs : LateGroups) (groups : Groups) (row : List Datum) (rows : side_state new ≡ appended row (side_state own)) where
  abbrev put_late : LateGroups
  put_late = record { groups = groups; gone = gs.gone }

  abbrev passes : RowKey → Bool
  passes k = agrees n (key_of (side_state own) row) (datum k.value)

  ids_put : (s : Side) → IsChanging s own others n gs
      → ((d : Side) (k : RowKey) → ids_at groups d k ≡ (if is_side s d && passes k then ids_at gs.groups d k ++ own.ever ∷ [] else ids_at gs.groups d k))
      → (d : Side) (k : RowKey) → ids_left put_late d k ≡ (if is_side s d && passes k then ids_left gs d k ++ own.ever ∷ [] else ids_left gs d k)
  ids_put s x put d k = put_at (is_side s d && passes k) own.ever (ids_at gs.gone d k) (ids_at gs.groups d k) (ids_at groups d k)
      (λ e. subst (λ (t : Side). All (λ i. i < own.ever) (ids_at gs.gone t k)) (side_is s d (first_so (is_side s d) (passes k) e)) (x.own_below k).1) (put d k)

  kept_put : (s : Side) → IsChanging s own others n gs → FitsFields (side_state own).columns row → own.ever < MAX_ROWS
      → ((d : Side) (k : RowKey) → ids_at groups d k ≡ (if is_side s d && passes k then ids_at gs.groups d k ++ own.ever ∷ [] else ids_at gs.groups d k))
      → IsKept (of_both s new others n) (ids_left put_late)
  kept_put side.Left x fits few put = subst (λ (t : SideState). IsKept (record { left = t; right = side_state others; join_nulls = n }) (ids_left put_late)) (sym rows)
      (kept_left (state_of own others n) (ids_left gs) (ids_left put_late) row x.kept fits few (ids_put side.Left x put))
  kept_put side.Right x fits few put = subst (λ (t : SideState). IsKept (record { left = side_state others; right = t; join_nulls = n }) (ids_left put_late)) (sym rows)
      (kept_right (state_of others own n) (ids_left gs) (ids_left put_late) row x.kept fits few (ids_put side.Right x put))

  pub pushed : (s : Side) → IsChanging s own others n gs → FitsFields (side_state own).columns row → own.ever < MAX_ROWS → IsPlaced new
      → ((d : Side) (k : RowKey) → ids_at groups d k ≡ (if is_side s d && passes k then ids_at gs.groups d k ++ own.ever ∷ [] else ids_at gs.groups d k))
      → IsChanging s new others n put_late
  pushed s x fits few placed put = record {
    kept = kept_put s x fits few put;
    own_placed = placed;
    others_placed = x.others_placed;
    ascend = λ d k. subst (λ (l : List ℕ). AllPairs ◌<◌ l) (sym (put d k)) (ascending_after (is_side s d && passes k) (ids_at gs.groups d k) own.ever (x.ascend d k)
        (λ e. subst (λ (t : Side). All (λ i. i < own.ever) (ids_at gs.groups t k)) (side_is s d (first_so (is_side s d) (passes k) e)) (x.own_below k).0));
    own_below = at_bound put_late s (own.ever + 1) new.ever (ap (λ (t : SideState). t.ever) rows) (λ k. (
      more_below (is_side s s && passes k) own.ever (own.ever + 1) (ids_at gs.groups s k) (ids_at groups s k) (λ e. omega arith) (put s k) (wider (ids_at gs.groups s k) (x.own_below k).0),
      wider (ids_at gs.gone s k) (x.own_below k).1,
    ));
    others_below = λ k. (
      emptied_below false others.ever (ids_at gs.groups (other s) k) (ids_at groups (other s) k)
          (put (other s) k ∙ ap (λ (b : Bool). if b && passes k then ids_at gs.groups (other s) k ++ own.ever ∷ [] else ids_at gs.groups (other s) k) (apart s)) (x.others_below k).0,
      (x.others_below k).1,
    );
  }
    where
      wider : (xs : List ℕ) → All (λ i. i < own.ever) xs → All (λ i. i < own.ever + 1) xs
      wider xs h = All-weaker (λ i. i < own.ever) (λ i. i < own.ever + 1) (λ i low. omega (arith, low)) xs h

-- A ROW IS TAKEN OUT

module _ (own others new : SideRows) (n : Bool) (gs late : LateGroups) (id : ℕ) (rows : side_state new ≡ taken_out id (side_state own)) where
  kept_pulled : (s : Side) → IsChanging s own others n gs
      → ((d : Side) (k : RowKey) → ids_left late d k ≡ (if is_side s d && pulled_agrees n (side_state own) (row_of (side_state own) id) (datum k.value) then without id (ids_left gs d k) else ids_left gs d k))
      → IsKept (of_both s new others n) (ids_left late)
  kept_pulled side.Left x put = subst (λ (t : SideState). IsKept (record { left = t; right = side_state others; join_nulls = n }) (ids_left late)) (sym rows)
      (pulled_left (state_of own others n) (ids_left gs) (ids_left late) id x.kept put)
  kept_pulled side.Right x put = subst (λ (t : SideState). IsKept (record { left = side_state others; right = t; join_nulls = n }) (ids_left late)) (sym rows)
      (pulled_right (state_of others own n) (ids_left gs) (ids_left late) id x.kept put)

  pub pulled : (s : Side) (row : List Datum) (key : Datum) → IsChanging s own others n gs → IsPlaced new → Some row ≡ row_of (side_state own) id → key ≡ key_of (side_state own) row → id < own.ever
      → IsTakenOut gs s (agrees n key) id late → IsChanging s new others n late
  pulled s row key x placed there keyed low h = record {
    kept = kept_pulled s x (λ d k. h.ids d k
        ∙ ap (λ (e : Datum). if is_side s d && agrees n e (datum k.value) then without id (ids_left gs d k) else ids_left gs d k) keyed
        ∙ ap (λ (o : Option (List Datum)). if is_side s d && pulled_agrees n (side_state own) o (datum k.value) then without id (ids_left gs d k) else ids_left gs d k) there);
    own_placed = placed;
    others_placed = x.others_placed;
    ascend = h.ascend;
    own_below = at_bound late s own.ever new.ever (ap (λ (t : SideState). t.ever) rows) (h.below s own.ever (λ e. low) x.own_below);
    others_below = h.below (other s) others.ever (λ e. let no : true ≡ false = sym e ∙ apart s in absurd (cc)) x.others_below;
  }

low_row : (rows : List Row) (id m : ℕ) (v : List Datum) → All (λ (r : Row). r.0 < m) rows → Some v ≡ lookup (nat_eq id) rows → id < m
low_row [] id m v all is = absurd (cc)
low_row (r ∷ rows) id m v all is = ⊎_elim
    (λ y. let low : r.0 < m = all 0 r (omega arith) in grind (arith, y, low))
    (λ e. low_row rows id m v (All-tail (λ (q : Row). q.0 < m) r rows all) (is ∙ ap (λ b. cond b (Some r.1) (lookup (nat_eq id) rows)) e))
    (cases_Bool (nat_eq id r.0))

pub row_low : (s : SideState) (id : ℕ) (v : List Datum) → AreRows s → Some v ≡ row_of s id → id < s.ever
row_low s id v x is = low_row s.rows id s.ever v x.below is

-- WHAT IS TOLD

told_is : (s : Side) (own others : SideRows) (n : Bool) (gs : LateGroups) (id : ℕ) → IsChanging s own others n gs
    → unwrap_or (option_map (λ (row : List Datum). agreeing n (side_state others) (key_of (side_state own) row)) (row_of (side_state own) id)) [] ≡ unwrap_or (partners (of_both s own others n) s id) []
told_is side.Left own others n gs id x = ap (λ (o : Option (List ℕ)). unwrap_or o []) (partners_are (state_of own others n) own.key others.key x.own_placed.place x.others_placed.place side.Left id)
told_is side.Right own others n gs id x = ap (λ (o : Option (List ℕ)). unwrap_or o []) (partners_are (state_of others own n) others.key own.key x.others_placed.place x.own_placed.place side.Right id)

pub among_others : (s : Side) (own others : SideRows) (n : Bool) (gs : LateGroups) → IsChanging s own others n gs → (k : RowKey) → ids_left gs (other s) k ≡ agreeing n (side_state others) (datum k.value)
among_others s own others n gs x k = others_grouped s own others n gs x k

abbrev told_from : SideRows → SideRows → Bool → ℕ → List ℕ
told_from own others n id = unwrap_or (option_map (λ (row : List Datum). agreeing n (side_state others) (key_of (side_state own) row)) (row_of (side_state own) id)) []

-- the row that was put last
found_last : (rows : List Row) (id : ℕ) (row : List Datum) → All (λ (r : Row). r.0 < id) rows → lookup (nat_eq id) (rows ++ (id, row) ∷ []) ≡ Some row
found_last [] id row low = let here : nat_eq id id ≡ true = grind (arith) in ap (λ b. cond b (Some row) None) here
found_last (r ∷ rows) id row low =
    let apart : nat_eq id r.0 ≡ false = grind (arith, low 0 r (omega arith)) in
    ap (λ b. cond b (Some r.1) (lookup (nat_eq id) (rows ++ (id, row) ∷ []))) apart ∙ found_last rows id row (All-tail (λ (q : Row). q.0 < id) r rows low)

-- what the new row tells
pub told_last : (own others new : SideRows) (n : Bool) (row : List Datum) → AreRows (side_state own) → side_state new ≡ appended row (side_state own)
    → agreeing n (side_state others) (key_of (side_state own) row) ≡ told_from new others n own.ever
told_last own others new n row kept rows = sym (
    (λ t. unwrap_or (option_map (λ (r : List Datum). agreeing n (side_state others) (key_of (rows t) r)) (row_of (rows t) own.ever)) [])
    ∙ ap (λ (o : Option (List Datum)). unwrap_or (option_map (λ (r : List Datum). agreeing n (side_state others) (key_of (side_state own) r)) o) []) (found_last (side_state own).rows own.ever row kept.below)
    )

-- ids that are others too, where they are told
pub where_told : {a b : List ℕ} (tells : Bool) → a ≡ b → (if tells then a else []) ≡ (if tells then b else [])
where_told tells e = ap (λ (l : List ℕ). if tells then l else []) e

-- WHAT IS DONE

pub checked : (s : Side) (own others : SideRows) (n : Bool) (row : List Datum) (f : DeltaFault) → IsChecked (side_state own) row (Err f) → IsRefused (of_both s own others n) (insert s row) (of_both s own others n) f
checked side.Left own others n row fault.Schema h = (h, inl refl)
checked side.Left own others n row fault.Full h = (h, inl refl)
checked side.Left own others n row fault.NoRow h = absurd h
checked side.Left own others n row fault.OutOfMemory h = absurd h
checked side.Right own others n row fault.Schema h = (h, inl refl)
checked side.Right own others n row fault.Full h = (h, inl refl)
checked side.Right own others n row fault.NoRow h = absurd h
checked side.Right own others n row fault.OutOfMemory h = absurd h

module _ (own others new : SideRows) (n : Bool) (row : List Datum) (fits : FitsFields (side_state own).columns row) (few : own.ever < MAX_ROWS) where
  pub not_put : (s : Side) → side_state new ≡ side_state own → IsRefused (of_both s own others n) (insert s row) (of_both s new others n) fault.OutOfMemory
  not_put side.Left e = ((fits, few), inl (both_same side.Left own new others n e))
  not_put side.Right e = ((fits, few), inl (both_same side.Right own new others n e))

  put_both : (s : Side) → side_state new ≡ appended row (side_state own) → of_both s new others n ≡ on_side s (appended row) (of_both s own others n)
  put_both side.Left e = ap (λ (t : SideState). record { left = t; right = side_state others; join_nulls = n }) e
  put_both side.Right e = ap (λ (t : SideState). record { left = side_state others; right = t; join_nulls = n }) e

  pub not_told : (s : Side) → side_state new ≡ appended row (side_state own) → IsRefused (of_both s own others n) (insert s row) (of_both s new others n) fault.OutOfMemory
  not_told side.Left e = ((fits, few), inr (refl, (fits, few), put_both side.Left e))
  not_told side.Right e = ((fits, few), inr (refl, (fits, few), put_both side.Right e))

  pub inserted : (tells : Bool) (s : Side) (gs : LateGroups) (id : ℕ) (v : Vec ℕ Global) → IsChanging s new others n gs → side_state new ≡ appended row (side_state own) → id ≡ own.ever
      → v.items ≡ (if tells then told_from new others n id else []) → IsDone tells (of_both s own others n) (insert s row) (of_both s new others n) (Ok v)
  inserted tells side.Left gs id v x e is as_told = (
    (fits, few),
    put_both side.Left e,
    as_told ∙ where_told tells (told_is side.Left new others n gs id x ∙ (λ t. unwrap_or (partners (put_both side.Left e t) side.Left (is t)) [])),
  )
  inserted tells side.Right gs id v x e is as_told = (
    (fits, few),
    put_both side.Right e,
    as_told ∙ where_told tells (told_is side.Right new others n gs id x ∙ (λ t. unwrap_or (partners (put_both side.Right e t) side.Right (is t)) [])),
  )

module _ (own others new : SideRows) (n : Bool) (id : ℕ) (rows : side_state new ≡ taken_out id (side_state own)) where
  pub nothing_out : None ≡ row_of (side_state own) id → side_state new ≡ side_state own
  nothing_out none = rows ∙ ap (λ (l : List Row). record { columns = (side_state own).columns; key = (side_state own).key; rows = l; ever = (side_state own).ever }) (absent_row id (side_state own).rows (sym none))

  pub no_row : (s : Side) → None ≡ row_of (side_state own) id → IsRefused (of_both s own others n) (remove s id) (of_both s new others n) fault.NoRow
  no_row side.Left none = (sym none, inl (both_same side.Left own new others n (nothing_out none)))
  no_row side.Right none = (sym none, inl (both_same side.Right own new others n (nothing_out none)))

  out_both : (s : Side) → of_both s new others n ≡ on_side s (taken_out id) (of_both s own others n)
  out_both side.Left = ap (λ (t : SideState). record { left = t; right = side_state others; join_nulls = n }) rows
  out_both side.Right = ap (λ (t : SideState). record { left = side_state others; right = t; join_nulls = n }) rows

  there : (o : Option (List Datum)) (row : List Datum) → Some row ≡ o → IsSome o
  there o row e = subst (λ (p : Option (List Datum)). IsSome p) e refl

  pub removed_untold : (s : Side) (row : List Datum) → Some row ≡ row_of (side_state own) id → IsRefused (of_both s own others n) (remove s id) (of_both s new others n) fault.OutOfMemory
  removed_untold side.Left row is = (tt, inr (refl, there (row_of (side_state own) id) row is, out_both side.Left))
  removed_untold side.Right row is = (tt, inr (refl, there (row_of (side_state own) id) row is, out_both side.Right))

  pub removed : (tells : Bool) (s : Side) (gs : LateGroups) (row : List Datum) (key : RowKey) (v : Vec ℕ Global) → IsChanging s own others n gs → Some row ≡ row_of (side_state own) id
      → datum key.value ≡ key_of (side_state own) row → v.items ≡ (if tells then ids_left gs (other s) key else []) → IsDone tells (of_both s own others n) (remove s id) (of_both s new others n) (Ok v)
  removed tells s gs row key v x is keyed as_told = at s x (as_told ∙ where_told tells (others_grouped s own others n gs x key ∙ ap (agreeing n (side_state others)) keyed
      ∙ ap (λ (o : Option (List Datum)). unwrap_or (option_map (λ (r : List Datum). agreeing n (side_state others) (key_of (side_state own) r)) o) []) is))
    where
      at : (s : Side) → IsChanging s own others n gs → v.items ≡ (if tells then told_from own others n id else []) → IsDone tells (of_both s own others n) (remove s id) (of_both s new others n) (Ok v)
      at side.Left y e = (there (row_of (side_state own) id) row is, out_both side.Left, e ∙ where_told tells (told_is side.Left own others n gs id y))
      at side.Right y e = (there (row_of (side_state own) id) row is, out_both side.Right, e ∙ where_told tells (told_is side.Right own others n gs id y))

-- FROM A VIEW AND BACK

pub from_view : (l r : SideRows) (n : Bool) (gs gone : Groups) → IsView l r n gs → ((d : Side) (k : RowKey) → ids_at gone d k ≡ []) → IsChanging side.Left l r n (record { groups = gs; gone = gone })
from_view l r n gs gone x none = record {
  kept = kept_same (state_of l r n) (state_of l r n) (ids_at gs) (ids_left (record { groups = gs; gone = gone })) x.kept refl
      (λ d k. ap (λ (ids : List ℕ). without_all ids (ids_at gs d k)) (none d k) ∙ none_gone (ids_at gs d k));
  own_placed = x.left_placed;
  others_placed = x.right_placed;
  ascend = groups_ascend (state_of l r n) (ids_at gs) x.kept;
  own_below = λ k. (groups_below (state_of l r n) (ids_at gs) x.kept side.Left k, empty side.Left l.ever k);
  others_below = λ k. (groups_below (state_of l r n) (ids_at gs) x.kept side.Right k, empty side.Right r.ever k);
}
  where
    empty : (d : Side) (m : ℕ) (k : RowKey) → All (λ i. i < m) (ids_at gone d k)
    empty d m k = subst (λ (ids : List ℕ). All (λ i. i < m) ids) (sym (none d k)) (none_pass (λ i. i < m))

pub to_view : (l r : SideRows) (n : Bool) (late : LateGroups) (groups : Groups) → IsChanging side.Left l r n late → ((d : Side) (k : RowKey) → ids_at groups d k ≡ ids_left late d k) → IsView l r n groups
to_view l r n late groups x same = record {
  kept = kept_same (state_of l r n) (state_of l r n) (ids_left late) (ids_at groups) x.kept refl same;
  left_placed = x.own_placed;
  right_placed = x.others_placed;
}
