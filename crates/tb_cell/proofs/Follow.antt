-- Values ascend, or descend, exactly where the walk over them says so.
use Rattle.std.proofs.Common.{arith, zero, suc, ◌≡◌, ◌∙◌, ◌↔◌, ℕ, ◌<◌, ◌+◌, ◌-◌, ◌&&◌, not, inl, inr, Bool, true, false, List, [], ◌∷◌, ◌++◌, length, take, drop, min, Option, Some, None, is_some, if◌then◌else◌, refl, ap, sym, subst, get_or, add-one, drop-cons, length-drop}
use Rattle.std.proofs.lemmas.List.{take_all, append-nil, take-append-drop, length-take-le}
use Rattle.std.proofs.lemmas.List.Elements.{All-head, All-tail, All-cons, filter-append, filter_passes}
use Rattle.std.proofs.lemmas.List.Filters.{length-filter_both}
use Rattle.std.specs.Prelude.{IsSorted as IsInOrder}
use Rattle.std.specs.Ordering.{is_lt}
use Rattle.std.specs.declared.cmp.Ordering.{Ordering}
use Rattle.tb_value.specs.Promise.Datum.{Datum, is_null, is_present}
use Rattle.tb_value.specs.Promise.Datum as value
use Rattle.tb_value.specs.Promise.Kind.{Kind}
use Rattle.tb_value.specs.Promise.SameKind.{is_key}
use Rattle.tb_cell.specs.Promise.Order.{order_of, may_follow, last_in_order, keeps_order}
use Rattle.tb_cell.specs.Promise.Flag.{nulls}
use Rattle.tb_cell.specs.Flag.{present_values, HasNullsAtOneEnd, IsOrdered}
use Rattle.tb_cell.proofs.Flags.{AreNull, ArePresent, not_true, present_of_nulls, nulls_of_nulls, present_of_present, nulls_of_present, in_order_drop}
use Rattle.tb_cell.proofs.Nulls.{nulls_at_most}
use Rattle.tb_cell.proofs.Parts.{part_of_two}

-- a walk over two lists is one over the second from where the first ends
abbrev pub followed_on : (down : Bool) → Option Datum → List Datum → Option Datum
followed_on down None ys = None
followed_on down (Some v) ys = last_in_order down v ys

pub followed_two : (down : Bool) (before : Datum) (xs ys : List Datum) → last_in_order down before (xs ++ ys) ≡ followed_on down (last_in_order down before xs) ys
followed_two down before [] ys = refl
followed_two down before (x ∷ xs) ys = step (may_follow down before x) (followed_two down x xs ys)
  where
    step : (b : Bool) → last_in_order down x (xs ++ ys) ≡ followed_on down (last_in_order down x xs) ys → (if b then last_in_order down x (xs ++ ys) else None) ≡ followed_on down (if b then last_in_order down x xs else None) ys
    step true e = e
    step false e = refl

-- behind Null any value may come
not_less_null : (down : Bool) (v : Datum) → is_lt (order_of down v value.null) ≡ false
not_less_null false value.null = refl
not_less_null false (value.boolean b) = refl
not_less_null false (value.int i) = refl
not_less_null false (value.string s) = refl
not_less_null false (value.binary s) = refl
not_less_null false (value.list vs) = refl
not_less_null false (value.struct vs) = refl
not_less_null true value.null = refl
not_less_null true (value.boolean b) = refl
not_less_null true (value.int i) = refl
not_less_null true (value.string s) = refl
not_less_null true (value.binary s) = refl
not_less_null true (value.list vs) = refl
not_less_null true (value.struct vs) = refl

both : (a b : Bool) → a && b ≡ true → (a ≡ true) × (b ≡ true)
both true b h = (refl, h)
both false b h = absurd (cc)

open_step : (b : Bool) (o : Option Datum) → is_some (if b then o else None) ≡ true → (b ≡ true) × (is_some o ≡ true)
open_step true o h = (refl, h)
open_step false o h = absurd (cc)

module _ {X : Type 0} (order : X → X → Ordering) where
  in_order_cons : (x y : X) (ys : List X) → is_lt (order y x) ≡ false → IsInOrder order (y ∷ ys) → IsInOrder order (x ∷ (y ∷ ys))
  in_order_cons x y ys h rest zero d low high = h
  in_order_cons x y ys h rest (suc k) d low high =
      let e : suc k + 1 ≡ suc (k + 1) = omega arith in
      subst (λ (n : ℕ). is_lt (order (get_or (x ∷ (y ∷ ys)) n d) (get_or (y ∷ ys) k d)) ≡ false) (sym e) (rest k d (omega arith) (omega arith))

-- a walk that reaches the end found values that are present and in order, and the other way round
followed_is_present : (down : Bool) (before : Datum) (xs : List Datum) → is_some (last_in_order down before xs) ≡ true → ArePresent xs
followed_is_present down before [] h = λ k d l. absurd (omega arith)
followed_is_present down before (x ∷ xs) h =
    let s = open_step (may_follow down before x) (last_in_order down x xs) h in
    All-cons (λ v. is_present v ≡ true) x xs (both (is_present x) (not (is_lt ((order_of down) x before))) s.0).0 (followed_is_present down x xs s.1)

followed_in_order : (down : Bool) (before : Datum) (xs : List Datum) → is_some (last_in_order down before xs) ≡ true → IsInOrder (order_of down) (before ∷ xs)
followed_in_order down before [] h = λ k d low high. absurd (omega arith)
followed_in_order down before (x ∷ xs) h =
    let s = open_step (may_follow down before x) (last_in_order down x xs) h in
    let f = not_true (is_lt ((order_of down) x before)) (both (is_present x) (not (is_lt ((order_of down) x before))) s.0).1 in
    in_order_cons (order_of down) before x xs f (followed_in_order down x xs s.1)

ordered_is_followed : (down : Bool) (before : Datum) (xs : List Datum) → ArePresent xs → IsInOrder (order_of down) (before ∷ xs) → is_some (last_in_order down before xs) ≡ true
ordered_is_followed down before [] some h = refl
ordered_is_followed down before (x ∷ xs) some h =
    let p : is_present x ≡ true = All-head (λ v. is_present v ≡ true) x xs some in
    let f : is_lt ((order_of down) x before) ≡ false = h 0 x (omega arith) (omega arith) in
    rw (p, f) (ordered_is_followed down x xs (All-tail (λ v. is_present v ≡ true) x xs some) (in_order_drop (order_of down) 1 (before ∷ (x ∷ xs)) h))

followed_sorted : (down : Bool) (xs : List Datum) → is_some (last_in_order down value.null xs) ≡ true → IsInOrder (order_of down) xs
followed_sorted down xs h = in_order_drop (order_of down) 1 (value.null ∷ xs) (followed_in_order down value.null xs h)

sorted_followed : (down : Bool) (xs : List Datum) → ArePresent xs → IsInOrder (order_of down) xs → is_some (last_in_order down value.null xs) ≡ true
sorted_followed down [] some h = refl
sorted_followed down (x ∷ xs) some h = ordered_is_followed down value.null (x ∷ xs) some (in_order_cons (order_of down) value.null x xs (not_less_null down x) h)

-- a list of as many nulls as values is nulls alone
counted : (vs : List Datum) → length (nulls vs) + length (present_values vs) ≡ length vs
counted vs = length-filter_both is_null is_present (λ _. refl) vs

all_null : (vs : List Datum) → length (nulls vs) ≡ length vs → AreNull vs
all_null [] h = λ k d l. absurd (omega arith)
all_null (v ∷ vs) h = split (is_null v) refl (all_null vs)
  where
    split : (b : Bool) → is_null v ≡ b → (length (nulls vs) ≡ length vs → AreNull vs) → AreNull (v ∷ vs)
    split true e rest = let m : suc (length (nulls vs)) ≡ suc (length vs) = rw e at h in All-cons (λ x. is_null x ≡ true) v vs e (rest (omega (arith, m)))
    split false e rest = let m : length (nulls vs) ≡ suc (length vs) = rw e at h in absurd (omega (arith, m, nulls_at_most vs))

-- where as many values as are nulls stand before values that are present, or behind them
split_first : (xs ys : List Datum) → ArePresent ys → length xs ≡ length (nulls (xs ++ ys)) → (nulls (xs ++ ys) ≡ xs) × (present_values (xs ++ ys) ≡ ys)
split_first xs ys some h =
    let n : nulls (xs ++ ys) ≡ nulls xs = filter-append is_null xs ys ∙ (ap (λ zs. nulls xs ++ zs) (nulls_of_present ys some) ∙ append-nil (nulls xs)) in
    let none : AreNull xs = all_null xs (sym (h ∙ ap length n)) in
    (n ∙ nulls_of_nulls xs none, filter-append is_present xs ys ∙ (λ i. present_of_nulls xs none i ++ present_of_present ys some i))

split_last : (xs ys : List Datum) → ArePresent xs → length ys ≡ length (nulls (xs ++ ys)) → (nulls (xs ++ ys) ≡ ys) × (present_values (xs ++ ys) ≡ xs)
split_last xs ys some h =
    let n : nulls (xs ++ ys) ≡ nulls ys = filter-append is_null xs ys ∙ ap (λ zs. zs ++ nulls ys) (nulls_of_present xs some) in
    let none : AreNull ys = all_null ys (sym (h ∙ ap length n)) in
    (n ∙ nulls_of_nulls ys none, filter-append is_present xs ys ∙ ((λ i. present_of_present xs some i ++ present_of_nulls ys none i) ∙ append-nil xs))

drop_past : (xs ys : List Datum) → drop (length xs) (xs ++ ys) ≡ ys
drop_past [] ys = refl
drop_past (x ∷ xs) ys = drop_past xs ys

take_front : (xs ys : List Datum) → take (length xs) (xs ++ ys) ≡ xs
take_front [] ys = refl
take_front (x ∷ xs) ys = ap (λ zs. x ∷ zs) (take_front xs ys)

-- what the first value says of the nulls before, or the values before
none_before : (ns ps vs : List Datum) → vs ≡ ns ++ ps → AreNull ns → is_null (get_or vs 0 value.null) ≡ false → ns ≡ []
none_before [] ps vs e none f = refl
none_before (v ∷ ns) ps vs e none f =
    let t : is_null v ≡ true = All-head (λ x. is_null x ≡ true) v ns none in
    let s : is_null (get_or vs 0 value.null) ≡ is_null v = ap (λ zs. is_null (get_or zs 0 value.null)) e in
    absurd (cc)

some_before : (ps ns vs : List Datum) → vs ≡ ps ++ ns → ArePresent ps → is_null (get_or vs 0 value.null) ≡ true → ps ≡ []
some_before [] ns vs e some t = refl
some_before (v ∷ ps) ns vs e some t =
    let f : is_null v ≡ false = not_true (is_null v) (All-head (λ x. is_present x ≡ true) v ps some) in
    let s : is_null (get_or vs 0 value.null) ≡ is_null v = ap (λ zs. is_null (get_or zs 0 value.null)) e in
    absurd (cc)

module _ (vs : List Datum) where
  count : length (present_values vs) ≡ length vs - length (nulls vs)
  count = omega (arith, counted vs)

  -- the walk goes over the values that are present_values
  walked : (b : Bool) → is_null (get_or vs 0 value.null) ≡ b → HasNullsAtOneEnd vs → take (length vs - length (nulls vs)) (drop (if b then length (nulls vs) else 0) vs) ≡ present_values vs
  walked true t (inl e) =
      ap (λ zs. take (length vs - length (nulls vs)) (drop (length (nulls vs)) zs)) e
      ∙ (ap (λ zs. take (length vs - length (nulls vs)) zs) (drop_past (nulls vs) (present_values vs)) ∙ take_all (length vs - length (nulls vs)) (present_values vs) (omega (arith, counted vs)))
  walked false f (inl e) =
      let none : nulls vs ≡ [] = none_before (nulls vs) (present_values vs) vs e (filter_passes is_null vs) f in
      take_all (length vs - length (nulls vs)) vs (omega (arith, ap length none)) ∙ (e ∙ ap (λ zs. zs ++ present_values vs) none)
  walked true t (inr e) =
      let none : present_values vs ≡ [] = some_before (present_values vs) (nulls vs) vs e (filter_passes is_present vs) t in
      let zero_left : length vs - length (nulls vs) ≡ 0 = omega (arith, ap length none, counted vs) in
      ap (λ k. take k (drop (length (nulls vs)) vs)) zero_left ∙ sym none
  walked false f (inr e) =
      ap (λ k. take k vs) (sym count) ∙ (ap (λ zs. take (length (present_values vs)) zs) e ∙ take_front (present_values vs) (nulls vs))

  ordered_keeps : (down : Bool) → IsInOrder (order_of down) (present_values vs) → HasNullsAtOneEnd vs → keeps_order down vs ≡ true
  unfolding keeps_order
  ordered_keeps down sorted ends =
      ap (λ zs. is_some (last_in_order down value.null zs)) (walked (is_null (get_or vs 0 value.null)) refl ends) ∙ sorted_followed down (present_values vs) (filter_passes is_present vs) sorted

  -- what the walk finds, where the nulls stand first, or last
  found_first : (down : Bool) → is_some (last_in_order down value.null (take (length vs - length (nulls vs)) (drop (length (nulls vs)) vs))) ≡ true → IsInOrder (order_of down) (present_values vs) × HasNullsAtOneEnd vs
  found_first down h =
      let xs = take (length (nulls vs)) vs in
      let ys = drop (length (nulls vs)) vs in
      let w : take (length vs - length (nulls vs)) ys ≡ ys = take_all (length vs - length (nulls vs)) ys (omega (arith, length-drop (length (nulls vs)) vs)) in
      let good : is_some (last_in_order down value.null ys) ≡ true = ap (λ zs. is_some (last_in_order down value.null zs)) (sym w) ∙ h in
      let cut : xs ++ ys ≡ vs = take-append-drop (length (nulls vs)) vs in
      let l : length xs ≡ length (nulls (xs ++ ys)) = length-take-le (length (nulls vs)) vs (nulls_at_most vs) ∙ ap (λ zs. length (nulls zs)) (sym cut) in
      let s = split_first xs ys (followed_is_present down value.null ys good) l in
      let n : nulls vs ≡ xs = ap nulls (sym cut) ∙ s.0 in
      let p : present_values vs ≡ ys = ap present_values (sym cut) ∙ s.1 in
      (rw p (followed_sorted down ys good), inl (sym cut ∙ sym (λ i. n i ++ p i)))

  found_last : (down : Bool) → is_some (last_in_order down value.null (take (length vs - length (nulls vs)) vs)) ≡ true → IsInOrder (order_of down) (present_values vs) × HasNullsAtOneEnd vs
  found_last down good =
      let xs = take (length vs - length (nulls vs)) vs in
      let ys = drop (length vs - length (nulls vs)) vs in
      let cut : xs ++ ys ≡ vs = take-append-drop (length vs - length (nulls vs)) vs in
      let k : length ys ≡ length (nulls vs) = omega (arith, length-drop (length vs - length (nulls vs)) vs, nulls_at_most vs) in
      let s = split_last xs ys (followed_is_present down value.null xs good) (k ∙ ap (λ zs. length (nulls zs)) (sym cut)) in
      let n : nulls vs ≡ ys = ap nulls (sym cut) ∙ s.0 in
      let p : present_values vs ≡ xs = ap present_values (sym cut) ∙ s.1 in
      (rw p (followed_sorted down xs good), inr (sym cut ∙ sym (λ i. p i ++ n i)))

  found : (down : Bool) (b : Bool) → is_some (last_in_order down value.null (take (length vs - length (nulls vs)) (drop (if b then length (nulls vs) else 0) vs))) ≡ true → IsInOrder (order_of down) (present_values vs) × HasNullsAtOneEnd vs
  found down true h = found_first down h
  found down false h = found_last down h

-- of a key type the walk decides the flag
pub keeps_order_decides : (down : Bool) (t : Kind) (vs : List Datum) → is_key t ≡ true → (keeps_order down vs ≡ true) ↔ IsOrdered (order_of down) t vs
unfolding keeps_order
keeps_order_decides down t vs key = (λ h. let f = found vs down (is_null (get_or vs 0 value.null)) h in (key, f.0, f.1), λ h. ordered_keeps vs down h.1 h.2)

-- one step of the walk over a part of a list
pub followed_step : (down : Bool) (before v : Datum) (xs : List Datum) (from i count : ℕ) → i < count → from + i < length xs → v ≡ get_or xs (from + i) value.null → last_in_order down before (take (count - i) (drop (from + i) xs)) ≡ (if may_follow down before v then last_in_order down v (take (count - (i + 1)) (drop (from + (i + 1)) xs)) else None)
followed_step down before v xs from i count more within e =
    let s : drop (from + i) xs ≡ v ∷ drop (from + i + 1) xs = rw (add-one, drop-cons xs (from + i) value.null) (ap (λ y. y ∷ drop (suc (from + i)) xs) (sym e)) in
    let n : count - i ≡ suc (count - (i + 1)) = omega arith in
    let m : from + i + 1 ≡ from + (i + 1) = omega arith in
    (λ t. last_in_order down before (take (n t) (s t))) ∙ ap (λ k. if may_follow down before v then last_in_order down v (take (count - (i + 1)) (drop k xs)) else None) m

-- a walk over a part of two lists, cut where the first ends
pub followed_part : (down : Bool) (before : Datum) (xs ys : List Datum) (skip left from count : ℕ) → from ≡ min skip (length xs) → count ≡ min left (length xs - from) → last_in_order down before (take left (drop skip (xs ++ ys))) ≡ followed_on down (last_in_order down before (take count (drop from xs))) (take (left - count) (drop (skip - from) ys))
followed_part down before xs ys skip left from count e f =
    ap (λ zs. last_in_order down before zs) (part_of_two xs ys skip left from count e f) ∙ followed_two down before (take count (drop from xs)) (take (left - count) (drop (skip - from) ys))
