-- The least and the greatest value of a group are what the walk over it leaves.
use Rattle.std.proofs.Common.{◌≡◌, ◌∙◌, ◌⊎◌, ◌↔◌, ◌&&◌, ◌||◌, ◌<◌, ℕ, ℤ, inl, inr, Bool, true, false, not, cond, List, [], ◌∷◌, fold, refl, sym, ap, subst, arith}
use Rattle.std.specs.Cmp.{IsTotalOrder}
use Rattle.std.specs.List.{All, Contains}
use Rattle.std.specs.Ordering.{flip_args, is_gt, is_lt, ordering_reverse}
use Rattle.std.specs.declared.cmp.Ordering.{Ordering}
use Rattle.std.specs.declared.cmp.Ordering.TheVariants.{Less, Equal, Greater}
use Rattle.std.proofs.lemmas.Cmp.{back_total, tied_itself, upto}
use Rattle.std.proofs.lemmas.List.Elements.{All-contains, All-contains_itself, All-cons, All-head, All-nil, All-tail, All-weaker, Contains-append_right}
use Rattle.tb_value.specs.Promise.Datum.{Datum, Items, is_null, is_present}
use Rattle.tb_value.specs.Promise.Datum as value
use Rattle.tb_value.specs.Promise.Kind.{Kind}
use Rattle.tb_value.specs.Promise.Kind as kind
use Rattle.tb_value.specs.Promise.SameKind.{is_key}
use Rattle.tb_value.specs.Promise.Typed.{HasType}
use Rattle.tb_cell.specs.Promise.Flag.{datum_cmp}
use Rattle.tb_cell.specs.Promise.Order.{order_of}
use Rattle.tb_rows.specs.Order.{kind_number, value_cmp}
use Rattle.tb_rows.proofs.Orders.{value_tie, value_total}
use Rattle.tb_agg.specs.Laws.{IsFirstPresent, IsNullOfNulls, MaxIsGreatest, MinIsLeast}
use Rattle.tb_agg.specs.Promise.Aggregates.{beats}

-- OF VALUES OF ONE TYPE THAT HAS KEYS THE ORDER IS TOTAL

-- a value of the type that is present
abbrev IsOf : Kind → Datum → Type 0
IsOf t v = HasType t v × (is_present v ≡ true)

-- the place among the kinds of values that a type's values have
abbrev number_of : Kind → ℕ
number_of kind.boolean = 1
number_of kind.string = 3
number_of kind.binary = 4
number_of _ = 2

int_number : (t : Kind) (i : ℤ) → HasType t (value.int i) → 2 ≡ number_of t
int_number kind.null i h = absurd h
int_number kind.boolean i h = absurd h
int_number kind.string i h = absurd h
int_number kind.binary i h = absurd h
int_number (kind.list t) i h = absurd h
int_number (kind.struct ps) i h = absurd h
int_number _ i h = refl

no_list : (t : Kind) (vs : Items) → is_key t ≡ true → HasType t (value.list vs) → ⊥
no_list (kind.list t) vs key h = absurd (cc)
no_list _ vs key h = absurd h

no_struct : (t : Kind) (vs : Items) → is_key t ≡ true → HasType t (value.struct vs) → ⊥
no_struct (kind.struct ps) vs key h = absurd (cc)
no_struct _ vs key h = absurd h

numbered : (t : Kind) → is_key t ≡ true → (v : Datum) → IsOf t v → kind_number v ≡ number_of t
numbered t key value.null h = absurd (cc)
numbered t key (value.boolean b) h = sym (ap number_of h.0)
numbered t key (value.int i) h = int_number t i h.0
numbered t key (value.string s) h = sym (ap number_of h.0.0)
numbered t key (value.binary s) h = sym (ap number_of h.0.0)
numbered t key (value.list vs) h = absurd (no_list t vs key h.0)
numbered t key (value.struct vs) h = absurd (no_struct t vs key h.0)

number_low : (t : Kind) → (0 < number_of t) × (number_of t < 5)
number_low kind.boolean = (omega arith, omega arith)
number_low kind.string = (omega arith, omega arith)
number_low kind.binary = (omega arith, omega arith)
number_low _ = (omega arith, omega arith)

of_one_number : (v w : Datum) → kind_number v ≡ kind_number w → 0 < kind_number v → kind_number v < 5 → datum_cmp v w ≡ value_cmp v w
of_one_number (value.boolean a) (value.boolean b) e low high = refl
of_one_number (value.int a) (value.int b) e low high = refl
of_one_number (value.string a) (value.string b) e low high = refl
of_one_number (value.binary a) (value.binary b) e low high = refl
of_one_number value.null w e low high = absurd (omega (arith, low))
of_one_number (value.list vs) w e low high = absurd (omega (arith, high))
of_one_number (value.struct vs) w e low high = absurd (omega (arith, high))
of_one_number _ _ e low high = absurd (omega (arith, e))

turned : (o : Ordering) → is_gt (ordering_reverse o) ≡ is_lt o
turned Less = refl
turned Equal = refl
turned Greater = refl

not_both : (o : Ordering) → is_lt o ≡ true → is_gt o ≡ false
not_both Less h = refl
not_both Equal h = refl
not_both Greater h = absurd (cc)

neither : (o : Ordering) → is_lt o ≡ false → is_gt o ≡ false → o ≡ Equal
neither Less h k = absurd (cc)
neither Equal h k = refl
neither Greater h k = absurd (cc)

abbrev total_order : Bool → Datum → Datum → Ordering
total_order false = value_cmp
total_order true = flip_args value_cmp

is_total : (greatest : Bool) → IsTotalOrder (total_order greatest)
is_total false = value_total
is_total true = back_total value_total

ties : (greatest : Bool) (v w : Datum) → total_order greatest v w ≡ Equal → v ≡ w
ties false v w e = value_tie v w e
ties true v w e = sym (value_tie w v e)

module _ (t : Kind) (key : is_key t ≡ true) (greatest : Bool) where
  abbrev R : Datum → Datum → Ordering
  R = total_order greatest

  -- the second isn't before the first where the first isn't behind the second
  behind : (v w : Datum) → is_lt (R w v) ≡ is_gt (R v w)
  behind v w = sym (turned (R w v)) ∙ ap is_gt (sym ((is_total greatest).antisymm v w))

  as_total : (v w : Datum) → IsOf t v → IsOf t w → order_of greatest v w ≡ R v w
  as_total v w of_v of_w = by greatest
    where
      n : kind_number v ≡ number_of t
      n = numbered t key v of_v

      m : kind_number w ≡ number_of t
      m = numbered t key w of_w

      by : (b : Bool) → order_of b v w ≡ total_order b v w
      by false = let low = number_low t in of_one_number v w (n ∙ sym m) (omega (arith, n, low.0)) (omega (arith, n, low.1))
      by true = let low = number_low t in of_one_number w v (m ∙ sym n) (omega (arith, m, low.0)) (omega (arith, m, low.1))

  -- the first comes before the second in the order
  abbrev before : Datum → Datum → Bool
  before v w = is_lt (order_of greatest v w)

  abbrev comes : Datum → Datum → Bool
  comes v w = is_lt (R v w)

  as_comes : (v w : Datum) → IsOf t v → IsOf t w → before v w ≡ comes v w
  as_comes v w of_v of_w = ap is_lt (as_total v w of_v of_w)

  itself : (v : Datum) → IsOf t v → before v v ≡ false
  itself v of_v = as_comes v v of_v of_v ∙ ap is_lt (tied_itself (is_total greatest) v)

  turns : (v w : Datum) → IsOf t v → IsOf t w → before v w ≡ true → before w v ≡ false
  turns v w of_v of_w h = as_comes w v of_w of_v ∙ behind v w ∙ not_both (R v w) (sym (as_comes v w of_v of_w) ∙ h)

  chain : (u v w : Datum) → IsOf t u → IsOf t v → IsOf t w → before u v ≡ false → before v w ≡ false → before u w ≡ false
  chain u v w of_u of_v of_w h k =
      let first : is_gt (R v u) ≡ false = sym (behind v u) ∙ sym (as_comes u v of_u of_v) ∙ h in
      let second : is_gt (R w v) ≡ false = sym (behind w v) ∙ sym (as_comes v w of_v of_w) ∙ k in
      as_comes u w of_u of_w ∙ behind w u ∙ upto (is_total greatest) w v u second first

  same : (v w : Datum) → IsOf t v → IsOf t w → before v w ≡ false → before w v ≡ false → v ≡ w
  same v w of_v of_w h k =
      ties greatest v w (neither (R v w) (sym (as_comes v w of_v of_w) ∙ h) (sym (behind v w) ∙ sym (as_comes w v of_w of_v) ∙ k))

  -- THE WALK

  -- a value is present where the other one is, which isn't before it
  abbrev Stands : Datum → Datum → Type 0
  Stands e v = is_present v ≡ true → (is_present e ≡ true) × (before v e ≡ false)

  stands_itself : (v : Datum) → HasType t v → Stands v v
  stands_itself v typed present = (present, itself v (typed, present))

  stands_past : (e n v : Datum) → HasType t e → HasType t n → HasType t v → Stands e n → Stands n v → Stands e v
  stands_past e n v of_e of_n of_v far near present =
      let one = near present in
      let two = far one.0 in
      (two.0, chain v n e (of_v, present) (of_n, one.0) (of_e, two.0) one.1 two.1)

  abbrev better : Datum → Datum → Datum
  better best v = cond (beats greatest best v) v best

  record Next (best v next : Datum) : Type 0 where
    typed : HasType t next
    over : Stands next best
    on : Stands next v
    one : next ≡ v ⊎ next ≡ best

  next_is : (best v : Datum) → HasType t best → HasType t v → Next best v (better best v)
  next_is best v of_best of_v = by (is_present v) refl (is_null best) refl (before v best) refl
    where
      takes : is_present v ≡ true → Stands v best → Next best v v
      takes present over = record { typed = of_v; over = over; on = stands_itself v of_v; one = inl refl }

      stays : Stands best v → Next best v best
      stays on = record { typed = of_best; over = stands_itself best of_best; on = on; one = inr refl }

      present_of : is_null best ≡ false → is_present best ≡ true
      present_of f = ap not f

      by : (p : Bool) → is_present v ≡ p → (n : Bool) → is_null best ≡ n → (l : Bool) → before v best ≡ l → Next best v (cond (p && (n || l)) v best)
      by false p n e l f = stays (λ q. absurd (cc))
      by true p true e l f = takes p (λ q. absurd (let none : is_present best ≡ false = ap not e in cc))
      by true p false e true f = takes p (λ q. (p, turns v best (of_v, p) (of_best, q) f))
      by true p false e false f = stays (λ q. (present_of e, f))

  record Walked (best : Datum) (vs : List Datum) (e : Datum) : Type 0 where
    one : e ≡ best ⊎ Contains vs e
    typed : HasType t e
    over : Stands e best
    each : All (Stands e) vs

  at_front : (v : Datum) (vs : List Datum) → Contains (v ∷ vs) v
  at_front v vs = All-head (Contains (v ∷ vs)) v vs (All-contains_itself (v ∷ vs))

  walk : (best : Datum) (vs : List Datum) → HasType t best → All (HasType t) vs → Walked best vs (fold better best vs)
  walk best [] of_best typed = record { one = inl refl; typed = of_best; over = stands_itself best of_best; each = All-nil (Stands best) }
  walk best (v ∷ vs) of_best typed =
      let of_v = All-head (HasType t) v vs typed in
      let n = next_is best v of_best of_v in
      let next : Datum = better best v in
      let e : Datum = fold better next vs in
      let rest = walk next vs n.typed (All-tail (HasType t) v vs typed) in
      record {
        one = place e next n.one rest.one;
        typed = rest.typed;
        over = stands_past e next best rest.typed n.typed of_best rest.over n.over;
        each = All-cons (Stands e) v vs (stands_past e next v rest.typed n.typed of_v rest.over n.on) rest.each;
      }
    where
      place : (e next : Datum) → next ≡ v ⊎ next ≡ best → e ≡ next ⊎ Contains vs e → e ≡ best ⊎ Contains (v ∷ vs) e
      place e next from (inr found) = inr (Contains-append_right (v ∷ []) vs e found)
      place e next (inl is) (inl f) = inr (subst (Contains (v ∷ vs)) (sym (f ∙ is)) (at_front v vs))
      place e next (inr is) (inl f) = inl (f ∙ is)

  -- WHERE IT ENDS

  null_of : (v : Datum) → is_present v ≡ false → v ≡ value.null
  null_of value.null h = refl
  null_of (value.boolean b) h = absurd (cc)
  null_of (value.int i) h = absurd (cc)
  null_of (value.string s) h = absurd (cc)
  null_of (value.binary s) h = absurd (cc)
  null_of (value.list vs) h = absurd (cc)
  null_of (value.struct vs) h = absurd (cc)

  module _ (vs : List Datum) (typed : All (HasType t) vs) where
    abbrev e : Datum
    e = fold better value.null vs

    walked : Walked value.null vs e
    walked = walk value.null vs tt typed

    found : is_present e ≡ true → Contains vs e
    found present = by walked.one
      where
        by : e ≡ value.null ⊎ Contains vs e → Contains vs e
        by (inl is) = absurd (let none : is_present e ≡ false = ap is_present is in cc)
        by (inr one) = one

    first : is_present e ≡ true → IsFirstPresent (order_of greatest) vs e
    first present = record {
      one = found present;
      present = present;
      none_before = All-weaker (Stands e) (λ w. is_present w ≡ true → before w e ≡ false) (λ w stands some. (stands some).1) vs walked.each;
    }

    nulls : is_present e ≡ false → IsNullOfNulls vs e
    nulls none = record {
      null = null_of e none;
      nulls = All-weaker (Stands e) (λ w. is_null w ≡ true) is vs walked.each;
    }
      where
        is : (w : Datum) → Stands e w → is_null w ≡ true
        is w stands = by (is_null w) refl
          where
            by : (b : Bool) → is_null w ≡ b → b ≡ true
            by true h = refl
            by false h = absurd (let some : is_present e ≡ true = (stands (ap not h)).0 in cc)

    is_one : IsFirstPresent (order_of greatest) vs e ⊎ IsNullOfNulls vs e
    is_one = by (is_present e) refl
      where
        by : (b : Bool) → is_present e ≡ b → IsFirstPresent (order_of greatest) vs e ⊎ IsNullOfNulls vs e
        by true h = inl (first h)
        by false h = inr (nulls h)

    no_other : (v : Datum) → IsFirstPresent (order_of greatest) vs v ⊎ IsNullOfNulls vs v → v ≡ e
    no_other v (inl f) =
        let stands = All-contains (Stands e) vs v walked.each f.one f.present in
        let back = All-contains (λ w. is_present w ≡ true → before w v ≡ false) vs e f.none_before (found stands.0) stands.0 in
        same v e (All-contains (HasType t) vs v typed f.one, f.present) (walked.typed, stands.0) stands.1 back
    no_other v (inr n) = by (is_present e) refl
      where
        by : (b : Bool) → is_present e ≡ b → v ≡ e
        by false h = n.null ∙ sym (null_of e h)
        by true h = absurd (let none : is_null e ≡ true = All-contains (λ w. is_null w ≡ true) vs e n.nulls (found h) in let not_some : is_present e ≡ false = ap not none in cc)

    pub only : (v : Datum) → (v ≡ e) ↔ (IsFirstPresent (order_of greatest) vs v ⊎ IsNullOfNulls vs v)
    only v = (λ is. subst (λ (w : Datum). IsFirstPresent (order_of greatest) vs w ⊎ IsNullOfNulls vs w) (sym is) is_one, no_other v)

pub least_is : MinIsLeast
least_is t key vs typed v = only t key false vs typed v

pub greatest_is : MaxIsGreatest
greatest_is t key vs typed v = only t key true vs typed v
