-- The ids under each key, after the group of one key has changed.
use Rattle.std.proofs.Common.{◌≡◌, ℕ, ◌<◌, ◌∷◌, ◌++◌, length, map, get_or, not, nat_eq, arith, Bool, true, false, cond, ◌&&◌, if◌then◌else◌, List, [], Some, None, refl, ap, sym, subst, ◌∙◌, ⊎_elim}
use Rattle.std.specs.BTreeMap.{get_by}
use Rattle.std.specs.Cmp.{first_so}
use Rattle.std.proofs.lemmas.Bool.{cases_Bool}
use Rattle.std.specs.Prelude.{All, AllPairs}
use Rattle.std.proofs.lemmas.List.{append-nil, get_or-map}
use Rattle.std.proofs.lemmas.List.Elements.{filter-append}
use Rattle.tb_value.specs.Promise.Datum.{Datum, null}
use Rattle.tb_value.specs.Promise.Same.{agrees}
use Rattle.tb_value.specs.See.{datum}
use Rattle.tb_value.specs.declared.any_value.AnyValue.{AnyValue}
use Rattle.tb_value.specs.declared.error.Side.{Side}
use Rattle.tb_value.specs.declared.error.Side.TheVariants as side
use Rattle.tb_rows.specs.Order.{value_cmp}
use Rattle.tb_delta.specs.Groups.{ids_at, ids_in, is_side, key_cmp, without}
use Rattle.tb_delta.specs.Inside.{is_grouped}
use Rattle.tb_delta.specs.Keys.{ties}
use Rattle.tb_delta.specs.Proved.KeyOrder.{ties-equal}
use Rattle.tb_delta.specs.declared.key.RowKey.{RowKey}
use Rattle.tb_delta.proofs.Agreeing.{agrees-ties}
use Rattle.tb_delta.proofs.Without.{asc_push, without-absent}
use Rattle.tb_delta.specs.declared.groups.Group.{Group}
use Rattle.tb_delta.specs.declared.groups.Groups.{Groups}

both : (x : Bool) (a b : List ℕ) → (if x then a else b) ≡ (if x && true then a else b)
both true a b = refl
both false a b = refl

pub neither : (x : Bool) (a b : List ℕ) → b ≡ (if x && false then a else b)
neither true a b = refl
neither false a b = refl

pub changed : (old new : Groups) (key k : RowKey) (w : Group) (s side : Side) (f : List ℕ → List ℕ)
    → get_by (key_cmp k) new.groups ≡ cond (ties (datum key.value) (datum k.value)) (Some w) (get_by (key_cmp k) old.groups)
    → ids_in s (Some w) ≡ (if is_side side s then f (ids_at old s key) else ids_at old s key)
    → ids_at new s k ≡ (if is_side side s && ties (datum key.value) (datum k.value) then f (ids_at old s k) else ids_at old s k)
changed old new key k w s side f got is = ⊎_elim
    (λ e. ap (ids_in s) got
    ∙ ap (λ b. ids_in s (cond b (Some w) (get_by (key_cmp k) old.groups))) e
    ∙ is
    ∙ ap (λ d. let ids : List ℕ = ids_in s (get_by (λ (other : RowKey). value_cmp d (datum other.value)) old.groups) in if is_side side s then f ids else ids) (ties-equal (datum key.value) (datum k.value) e)
    ∙ both (is_side side s) (f (ids_at old s k)) (ids_at old s k)
    ∙ sym (ap (λ b. if is_side side s && b then f (ids_at old s k) else ids_at old s k) e))
    (λ e. ap (ids_in s) got
    ∙ ap (λ b. ids_in s (cond b (Some w) (get_by (key_cmp k) old.groups))) e
    ∙ neither (is_side side s) (f (ids_at old s k)) (ids_at old s k)
    ∙ sym (ap (λ b. if is_side side s && b then f (ids_at old s k) else ids_at old s k) e))
    (cases_Bool (ties (datum key.value) (datum k.value)))

pub either : (x : Bool) (a : List ℕ) → a ≡ (if x then a else a)
either true a = refl
either false a = refl

-- taking a number out of the ids of a key without a group leaves all
pub absent : (old : Groups) (key k : RowKey) (s side : Side) (f : List ℕ → List ℕ) → f [] ≡ []
    → get_by (key_cmp key) old.groups ≡ None
    → ids_at old s k ≡ (if is_side side s && ties (datum key.value) (datum k.value) then f (ids_at old s k) else ids_at old s k)
absent old key k s side f empty none = ⊎_elim
    (λ e. let nothing : ids_at old s k ≡ [] = ap (λ d. ids_in s (get_by (λ (other : RowKey). value_cmp d (datum other.value)) old.groups)) (sym (ties-equal (datum key.value) (datum k.value) e)) ∙ ap (ids_in s) none in
    either (is_side side s && ties (datum key.value) (datum k.value)) (ids_at old s k)
    ∙ ap (λ ids. if is_side side s && ties (datum key.value) (datum k.value) then ids else ids_at old s k) (nothing ∙ sym (ap f nothing ∙ empty)))
    (λ e. neither (is_side side s) (f (ids_at old s k)) (ids_at old s k)
    ∙ sym (ap (λ b. if is_side side s && b then f (ids_at old s k) else ids_at old s k) e))
    (cases_Bool (ties (datum key.value) (datum k.value)))

-- a group written as it was leaves all
pub rewritten : (old new : Groups) (key k : RowKey) (w : Group) (s : Side)
    → get_by (key_cmp k) new.groups ≡ cond (ties (datum key.value) (datum k.value)) (Some w) (get_by (key_cmp k) old.groups)
    → ids_in s (Some w) ≡ ids_at old s key
    → ids_at new s k ≡ ids_at old s k
rewritten old new key k w s got is =
    changed old new key k w s s (λ ids. ids) got (is ∙ either (is_side s s) (ids_at old s key))
    ∙ sym (either (is_side s s && ties (datum key.value) (datum k.value)) (ids_at old s k))

-- where nothing stands, nothing is told
pub none_told : (tells : Bool) (ids : List ℕ) → ids ≡ [] → ids ≡ (if tells then [] else [])
none_told true ids none = none
none_told false ids none = none

-- the test of a grouped key
pub with_agrees : (x nulls : Bool) (d e : Datum) (a b : List ℕ) → is_grouped nulls d ≡ true → (if x && ties d e then a else b) ≡ (if x && agrees nulls d e then a else b)
with_agrees x nulls d e a b g = ap (λ t. if x && (t && ties d e) then a else b) (sym g) ∙ ap (λ t. if x && t then a else b) (sym (agrees-ties nulls d e))

pub without_agrees : (x nulls : Bool) (d e : Datum) (a b : List ℕ) → is_grouped nulls d ≡ false → b ≡ (if x && agrees nulls d e then a else b)
without_agrees x nulls d e a b g = neither x a b ∙ ap (λ t. if x && (t && ties d e) then a else b) (sym g) ∙ ap (λ t. if x && t then a else b) (sym (agrees-ties nulls d e))

pub keyed : (vs : List AnyValue) (i : ℕ) (v : AnyValue) → i < length vs → v ≡ get_or vs i v → datum v ≡ get_or (map datum vs) i null
keyed vs i v low is = ap datum is ∙ sym (get_or-map datum vs i v null low)

pub side_is : (a b : Side) → is_side a b ≡ true → a ≡ b
side_is side.Left side.Left e = refl
side_is side.Left side.Right e = absurd (cc)
side_is side.Right side.Left e = absurd (cc)
side_is side.Right side.Right e = refl

-- a number that was put last is taken out again
pub put_and_taken : (id : ℕ) (ids : List ℕ) → All (λ i. i < id) ids → without id (ids ++ id ∷ []) ≡ ids
put_and_taken id ids below =
    let same_number : not (nat_eq id id) ≡ false = grind (arith) in
    filter-append (λ i. not (nat_eq id i)) ids (id ∷ [])
    ∙ ap (λ (l : List ℕ). without id ids ++ l) (ap (λ b. cond b (id ∷ []) []) same_number)
    ∙ append-nil (without id ids)
    ∙ without-absent id ids (λ k low e. omega (arith, e, below k 0 low))

pub ascending_after : (b : Bool) (ids : List ℕ) (id : ℕ) → AllPairs ◌<◌ ids → (b ≡ true → All (λ i. i < id) ids) → AllPairs ◌<◌ (if b then ids ++ id ∷ [] else ids)
ascending_after true ids id asc below = asc_push ids id asc (below refl)
ascending_after false ids id asc below = asc

pub undone : (b : Bool) (old mid : List ℕ) (id : ℕ) → mid ≡ (if b then old ++ id ∷ [] else old) → (b ≡ true → All (λ i. i < id) old) → (if b then without id mid else mid) ≡ old
undone true old mid id is below = ap (without id) is ∙ put_and_taken id old (below refl)
undone false old mid id is below = is

-- an id behind all others of its side, put under a key: the ids ascend, and it may be taken out again
module _ (d s : Side) (nulls : Bool) (key k : RowKey) (id : ℕ) (old mid : Groups) (below : All (λ i. i < id) (ids_at old d k))
    (put : ids_at mid s k ≡ (if is_side d s && agrees nulls (datum key.value) (datum k.value) then ids_at old s k ++ id ∷ [] else ids_at old s k)) where
  below_there : (is_side d s && agrees nulls (datum key.value) (datum k.value)) ≡ true → All (λ i. i < id) (ids_at old s k)
  below_there e = subst (λ (t : Side). All (λ i. i < id) (ids_at old t k)) (side_is d s (first_so (is_side d s) (agrees nulls (datum key.value) (datum k.value)) e)) below

  pub put_ascends : AllPairs ◌<◌ (ids_at old s k) → AllPairs ◌<◌ (ids_at mid s k)
  put_ascends asc = subst (λ (l : List ℕ). AllPairs ◌<◌ l) (sym put) (ascending_after (is_side d s && agrees nulls (datum key.value) (datum k.value)) (ids_at old s k) id asc below_there)

  pub put_undone : (other : RowKey) → datum other.value ≡ datum key.value
      → (if is_side d s && agrees nulls (datum other.value) (datum k.value) then without id (ids_at mid s k) else ids_at mid s k) ≡ ids_at old s k
  put_undone other same =
      ap (λ (e : Datum). if is_side d s && agrees nulls e (datum k.value) then without id (ids_at mid s k) else ids_at mid s k) same
      ∙ undone (is_side d s && agrees nulls (datum key.value) (datum k.value)) (ids_at old s k) (ids_at mid s k) id put below_there

-- taking out a group without ids leaves all
pub emptied : (old new : Groups) (key k : RowKey) (w : Group) (s : Side)
    → get_by (key_cmp k) new.groups ≡ cond (ties (datum key.value) (datum k.value)) None (get_by (key_cmp k) old.groups)
    → get_by (key_cmp key) old.groups ≡ Some w
    → ids_in s (Some w) ≡ []
    → ids_at new s k ≡ ids_at old s k
emptied old new key k w s got there empty = ⊎_elim
    (λ e. ap (ids_in s) got
    ∙ ap (λ b. ids_in s (cond b None (get_by (key_cmp k) old.groups))) e
    ∙ sym (ap (λ d. ids_in s (get_by (λ (other : RowKey). value_cmp d (datum other.value)) old.groups)) (sym (ties-equal (datum key.value) (datum k.value) e)) ∙ ap (ids_in s) there ∙ empty))
    (λ e. ap (ids_in s) got ∙ ap (λ b. ids_in s (cond b None (get_by (key_cmp k) old.groups))) e)
    (cases_Bool (ties (datum key.value) (datum k.value)))
