-- The ids under each key, after ids were taken out of groups or put down as gone.
use Rattle.std.proofs.Common.{◌≡◌, ℕ, ◌<◌, Bool, true, false, cond, ◌&&◌, if◌then◌else◌, List, [], ◌∷◌, ◌++◌, Option, Some, None, length, refl, ap, arith, sym, subst, ◌∙◌}
use Rattle.std.specs.Prelude.{AllPairs}
use Rattle.std.specs.BTreeMap.{BTreeMap, get_by, is_at}
use Rattle.std.specs.Map.{lookup}
use Rattle.std.specs.Cmp.{first_so, second_so}
use Rattle.tb_value.specs.Promise.Datum.{Datum}
use Rattle.tb_value.specs.Promise.Same.{agrees}
use Rattle.tb_value.specs.See.{datum}
use Rattle.tb_value.specs.declared.error.Side.{Side}
use Rattle.tb_value.specs.declared.error.Side.TheVariants as side
use Rattle.tb_rows.specs.Order.{value_cmp}
use Rattle.tb_delta.specs.Groups.{ids_at, ids_in, is_side, key_cmp, side_ids, ties, without, without_all, AreAscending}
use Rattle.tb_delta.specs.Inside.{is_grouped}
use Rattle.tb_delta.specs.Late.{count_gone, ids_left, IsTakenOut, KeepsIds}
use Rattle.tb_value.specs.Proved.ValueTests.{same-Decides}
use Rattle.tb_delta.specs.Proved.KeyOrder.{same-ties, ties-equal}
use Rattle.tb_delta.specs.declared.groups.Group.{Group}
use Rattle.tb_delta.specs.declared.groups.Groups.{Groups}
use Rattle.tb_delta.specs.declared.key.RowKey.{RowKey}
use Rattle.tb_delta.specs.declared.late.LateGroups.{LateGroups}
use Rattle.tb_delta.proofs.Gone.{none_gone}
use Rattle.tb_delta.proofs.Grouped.{side_is, with_agrees, without_agrees}
use Rattle.tb_delta.proofs.LateIds.{emptied_below, fewer_ascend, fewer_below, more_below, put_down_at, settled_at, taken_at}

-- under a key that ties the same ids stand
tied_at : (m : BTreeMap RowKey Group) (key k : RowKey) → ties (datum key.value) (datum k.value) ≡ true → get_by (key_cmp key) m ≡ get_by (key_cmp k) m
tied_at m key k e = ap (λ d. get_by (λ (o : RowKey). value_cmp d (datum o.value)) m) (ties-equal (datum key.value) (datum k.value) e)

pub same_list : (gs : Groups) (d s : Side) (key k : RowKey) → (is_side d s && ties (datum key.value) (datum k.value)) ≡ true → ids_at gs s k ≡ ids_at gs d key
same_list gs d s key k e =
    sym (ap (ids_in d) (tied_at gs.groups key k (second_so (is_side d s) (ties (datum key.value) (datum k.value)) e))
    ∙ ap (λ x. ids_at gs x k) (side_is d s (first_so (is_side d s) (ties (datum key.value) (datum k.value)) e)))

pub no_items : {X : Type 0} (xs : List X) → length xs ≡ 0 → xs ≡ []
no_items [] e = refl
no_items (x ∷ xs) e = absurd (omega (arith, e))

-- a key ties with itself
pub here : (d : Side) (key : RowKey) → (is_side d d && ties (datum key.value) (datum key.value)) ≡ true
here side.Left key = sym (same-ties (datum key.value) (datum key.value)) ∙ (same-Decides (datum key.value) (datum key.value)).1 refl
here side.Right key = sym (same-ties (datum key.value) (datum key.value)) ∙ (same-Decides (datum key.value) (datum key.value)).1 refl

pub settles : (old : LateGroups) (groups gone : Groups) (d : Side) (key : RowKey) (taken : List ℕ) → AreAscending old.groups → taken ≡ ids_at old.gone d key
    → ((s : Side) (k : RowKey) → ids_at gone s k ≡ (if is_side d s && ties (datum key.value) (datum k.value) then [] else ids_at old.gone s k))
    → ((s : Side) (k : RowKey) → ids_at groups s k ≡ (if is_side d s && ties (datum key.value) (datum k.value) then without_all taken (ids_at old.groups s k) else ids_at old.groups s k))
    → KeepsIds old (record { groups = groups; gone = gone })
settles old groups gone d key taken asc all emptied fewer = record {
  ascend = λ s k. fewer_ascend (is_side d s && ties (datum key.value) (datum k.value)) taken (ids_at old.groups s k) (ids_at groups s k) (fewer s k) (asc s k);
  below = λ s n below k. (
    fewer_below (is_side d s && ties (datum key.value) (datum k.value)) n taken (ids_at old.groups s k) (ids_at groups s k) (fewer s k) (below k).0,
    emptied_below (is_side d s && ties (datum key.value) (datum k.value)) n (ids_at old.gone s k) (ids_at gone s k) (emptied s k) (below k).1,
  );
  ids = λ s k. settled_at (is_side d s && ties (datum key.value) (datum k.value)) (ids_at old.gone s k) (ids_at gone s k) taken (ids_at old.groups s k) (ids_at groups s k)
      (λ e. same_list old.gone d s key k e ∙ sym all) (fewer s k) (emptied s k);
}

-- the list that was settled
pub settled_here : (old : LateGroups) (groups : Groups) (d : Side) (key : RowKey) (taken : List ℕ) → taken ≡ ids_at old.gone d key
    → ids_at groups d key ≡ (if is_side d d && ties (datum key.value) (datum key.value) then without_all taken (ids_at old.groups d key) else ids_at old.groups d key)
    → (is_side d d && ties (datum key.value) (datum key.value)) ≡ true
    → ids_at groups d key ≡ without_all (ids_at old.gone d key) (ids_at old.groups d key)
settled_here old groups d key taken all is here =
    is ∙ ap (λ (b : Bool). if b then without_all taken (ids_at old.groups d key) else ids_at old.groups d key) here ∙ ap (λ l. without_all l (ids_at old.groups d key)) all

pub puts_down : (old : LateGroups) (gone : Groups) (d : Side) (key : RowKey) (id : ℕ) → AreAscending old.groups
    → ((s : Side) (k : RowKey) → ids_at gone s k ≡ (if is_side d s && ties (datum key.value) (datum k.value) then ids_at old.gone s k ++ id ∷ [] else ids_at old.gone s k))
    → IsTakenOut old d (ties (datum key.value)) id (record { groups = old.groups; gone = gone })
puts_down old gone d key id asc more = record {
  ascend = asc;
  below = λ s n low below k. (
    (below k).0,
    more_below (is_side d s && ties (datum key.value) (datum k.value)) id n (ids_at old.gone s k) (ids_at gone s k) (λ e. low (first_so (is_side d s) (ties (datum key.value) (datum k.value)) e)) (more s k) (below k).1,
  );
  ids = λ s k. put_down_at (is_side d s && ties (datum key.value) (datum k.value)) id (ids_at old.gone s k) (ids_at gone s k) (ids_at old.groups s k) (ids_at old.groups s k) refl (more s k);
}

pub takes : (old : LateGroups) (groups gone : Groups) (d : Side) (key : RowKey) (id : ℕ) → AreAscending old.groups
    → ((s : Side) (k : RowKey) → ids_at gone s k ≡ ids_at old.gone s k)
    → ((s : Side) (k : RowKey) → ids_at groups s k ≡ (if is_side d s && ties (datum key.value) (datum k.value) then without_all (id ∷ []) (ids_at old.groups s k) else ids_at old.groups s k))
    → IsTakenOut old d (ties (datum key.value)) id (record { groups = groups; gone = gone })
takes old groups gone d key id asc stay fewer = record {
  ascend = λ s k. fewer_ascend (is_side d s && ties (datum key.value) (datum k.value)) (id ∷ []) (ids_at old.groups s k) (ids_at groups s k) (fewer s k) (asc s k);
  below = λ s n low below k. (
    fewer_below (is_side d s && ties (datum key.value) (datum k.value)) n (id ∷ []) (ids_at old.groups s k) (ids_at groups s k) (fewer s k) (below k).0,
    emptied_below false n (ids_at old.gone s k) (ids_at gone s k) (stay s k) (below k).1,
  );
  ids = λ s k. taken_at (is_side d s && ties (datum key.value) (datum k.value)) id (ids_at old.gone s k) (ids_at gone s k) (ids_at old.groups s k) (ids_at groups s k) (stay s k) (fewer s k);
}

-- THE FIRST KEY

none_under : (s : Side) (b : Bool) (o : Option Group) → ids_in s (cond b None o) ≡ (if b then [] else ids_in s o)
none_under s true o = refl
none_under s false o = refl

module _ (old : LateGroups) (mid groups gone : Groups) (key : RowKey) (group : Group) (lefts rights : List ℕ) (lefts_are : lefts ≡ group.left.items) (rights_are : rights ≡ group.right.items) (asc : AreAscending old.groups)
    (got : (k : RowKey) → get_by (key_cmp k) gone.groups ≡ cond (ties (datum key.value) (datum k.value)) None (get_by (key_cmp k) old.gone.groups))
    (there : get_by (key_cmp key) old.gone.groups ≡ Some group)
    (left : (s : Side) (k : RowKey) → ids_at mid s k ≡ (if is_side side.Left s && ties (datum key.value) (datum k.value) then without_all lefts (ids_at old.groups s k) else ids_at old.groups s k))
    (right : (s : Side) (k : RowKey) → ids_at groups s k ≡ (if is_side side.Right s && ties (datum key.value) (datum k.value) then without_all rights (ids_at mid s k) else ids_at mid s k)) where
  fewer : (s : Side) (k : RowKey) → ids_at groups s k ≡ (if ties (datum key.value) (datum k.value) then without_all (side_ids s group) (ids_at old.groups s k) else ids_at old.groups s k)
  fewer side.Left k = right side.Left k ∙ left side.Left k
      ∙ ap (λ (l : List ℕ). if ties (datum key.value) (datum k.value) then without_all l (ids_at old.groups side.Left k) else ids_at old.groups side.Left k) lefts_are
  fewer side.Right k = right side.Right k ∙ ap (λ (l : List ℕ). if ties (datum key.value) (datum k.value) then without_all rights l else l) (left side.Right k)
      ∙ ap (λ (l : List ℕ). if ties (datum key.value) (datum k.value) then without_all l (ids_at old.groups side.Right k) else ids_at old.groups side.Right k) rights_are

  emptied : (s : Side) (k : RowKey) → ids_at gone s k ≡ (if ties (datum key.value) (datum k.value) then [] else ids_at old.gone s k)
  emptied s k = ap (ids_in s) (got k) ∙ none_under s (ties (datum key.value) (datum k.value)) (get_by (key_cmp k) old.gone.groups)

  pub settles_first : KeepsIds old (record { groups = groups; gone = gone })
  settles_first = record {
    ascend = λ s k. fewer_ascend (ties (datum key.value) (datum k.value)) (side_ids s group) (ids_at old.groups s k) (ids_at groups s k) (fewer s k) (asc s k);
    below = λ s n below k. (
      fewer_below (ties (datum key.value) (datum k.value)) n (side_ids s group) (ids_at old.groups s k) (ids_at groups s k) (fewer s k) (below k).0,
      emptied_below (ties (datum key.value) (datum k.value)) n (ids_at old.gone s k) (ids_at gone s k) (emptied s k) (below k).1,
    );
    ids = λ s k. settled_at (ties (datum key.value) (datum k.value)) (ids_at old.gone s k) (ids_at gone s k) (side_ids s group) (ids_at old.groups s k) (ids_at groups s k)
        (λ e. ap (ids_in s) (sym (tied_at old.gone.groups key k e) ∙ there)) (fewer s k) (emptied s k);
  }

-- the same entries
pub same_entries : (old : LateGroups) (gone : Groups) → AreAscending old.groups → gone.groups.entries ≡ old.gone.groups.entries → KeepsIds old (record { groups = old.groups; gone = gone })
same_entries old gone asc same = record {
  ascend = asc;
  below = λ s n below k. ((below k).0, emptied_below false n (ids_at old.gone s k) (ids_at gone s k) (stay s k) (below k).1);
  ids = λ s k. ap (λ (l : List ℕ). without_all l (ids_at old.groups s k)) (stay s k);
}
  where
    stay : (s : Side) (k : RowKey) → ids_at gone s k ≡ ids_at old.gone s k
    stay s k = ap (λ (es : List (RowKey × Group)). ids_in s (lookup (is_at (key_cmp k)) es)) same

-- where nothing is gone, the groups have the ids that are left
pub all_settled : (gs : LateGroups) → count_gone gs ≡ 0 → (s : Side) (k : RowKey) → ids_left gs s k ≡ ids_at gs.groups s k
all_settled gs none s k =
    ap (λ (es : List (RowKey × Group)). without_all (ids_in s (lookup (is_at (key_cmp k)) es)) (ids_at gs.groups s k)) (no_items gs.gone.groups.entries none)
    ∙ none_gone (ids_at gs.groups s k)

-- the same ids in each group
pub same_groups : (old : LateGroups) (groups : Groups) → AreAscending old.groups → ((s : Side) (k : RowKey) → ids_at groups s k ≡ ids_at old.groups s k) → KeepsIds old (record { groups = groups; gone = old.gone })
same_groups old groups asc stay = record {
  ascend = λ s k. subst (λ (l : List ℕ). AllPairs ◌<◌ l) (sym (stay s k)) (asc s k);
  below = λ s n below k. (emptied_below false n (ids_at old.groups s k) (ids_at groups s k) (stay s k) (below k).0, (below k).1);
  ids = λ s k. ap (λ (l : List ℕ). without_all (ids_at old.gone s k) l) (stay s k);
}

-- an id is taken out of ids that are as before
pub taken_after : (old mid new : LateGroups) (d : Side) (passes : Datum → Bool) (id : ℕ) → KeepsIds old mid → IsTakenOut mid d passes id new → IsTakenOut old d passes id new
taken_after old mid new d passes id kept h = record {
  ascend = h.ascend;
  below = λ s n low below. h.below s n low (kept.below s n below);
  ids = λ s k. h.ids s k ∙ (λ t. if is_side d s && passes (datum k.value) then without id (kept.ids s k t) else kept.ids s k t);
}

-- a key without a group has no id to be taken out
pub kept_ungrouped : (old new : LateGroups) (d : Side) (nulls : Bool) (key : Datum) (id : ℕ) → is_grouped nulls key ≡ false → KeepsIds old new → IsTakenOut old d (agrees nulls key) id new
kept_ungrouped old new d nulls key id alone h = record {
  ascend = h.ascend;
  below = λ s n low. h.below s n;
  ids = λ s k. h.ids s k ∙ without_agrees (is_side d s) nulls key (datum k.value) (without id (ids_left old s k)) (ids_left old s k) alone;
}

-- the test of a grouped key
pub taken_grouped : (old new : LateGroups) (d : Side) (nulls : Bool) (key : Datum) (id : ℕ) → is_grouped nulls key ≡ true → IsTakenOut old d (ties key) id new → IsTakenOut old d (agrees nulls key) id new
taken_grouped old new d nulls key id grouped h = record {
  ascend = h.ascend;
  below = h.below;
  ids = λ s k. h.ids s k ∙ with_agrees (is_side d s) nulls key (datum k.value) (without id (ids_left old s k)) (ids_left old s k) grouped;
}
