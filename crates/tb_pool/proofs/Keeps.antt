-- Each event keeps the rule.
use Rattle.std.proofs.Common.{◌≡◌, ◌≢◌, ℕ, zero, suc, ◌+◌, ◌-◌, ◌<◌, ◌≤◌, ◌==◌, cond, List, [], ◌∷◌, ◌++◌, set, refl, sym, ap, ◌∙◌, subst, ⊎_elim, arith, sum_by}
use Rattle.std.specs.Prelude.{nat_le}
use mathlib.Core.Option.{some, some-ne-none, some-injective}
use lib.ListN.{get_elem?}
use Rattle.std.proofs.lemmas.List.Sums.{sum_by-append, sum_by-cons, sum_by_push}
use Rattle.std.proofs.lemmas.Bool.Decides.{nat_tests}
use Rattle.std.proofs.lemmas.Bool.{cases_lt}
use Rattle.atomic_table.proofs.Lists.{at_set, at_snoc, set_else}
use Rattle.tb_pool.specs.declared.seat.Seat.{Seat}
use Rattle.tb_pool.specs.Core.{seat_with, times, late_count, once_below, IsPast, State, state, opening, Event, claim, split, join, Happens, Follows, EachSeat, IsSound, StateRule}

-- a sum after a change of one seat
pub sum_at : (f : Seat → ℕ) (seats : List Seat) (w : ℕ) (h k : Seat) → get_elem? seats w ≡ some h → sum_by f (set seats w k) + f h ≡ sum_by f seats + f k
sum_at f [] w h k e = absurd (some-ne-none h (sym e))
sum_at f (x ∷ xs) zero h k e = let same : x ≡ h = some-injective x h e in let y : f x ≡ f h = ap f same in omega (arith, sum_by-cons f k xs, sum_by-cons f x xs)
sum_at f (x ∷ xs) (suc w) h k e = let r = sum_at f xs w h k e in omega (arith, sum_by-cons f x xs, sum_by-cons f x (set xs w k))

-- what holds of each seat, after a change of one
each_set : (P : Seat → Type 0) (seats : List Seat) (w : ℕ) (k : Seat) → P k → EachSeat P seats → EachSeat P (set seats w k)
each_set P seats w k here others j u e = ⊎_elim (λ (t : (j ≡ w) × (k ≡ u)). subst P t.1 here) (λ (t : (j ≢ w) × (get_elem? seats j ≡ some u)). others j u t.1) (at_set seats w j k u e)

each_push : (P : Seat → Type 0) (seats : List Seat) (k : Seat) → P k → EachSeat P seats → EachSeat P (seats ++ k ∷ [])
each_push P seats k here others j u e = ⊎_elim (λ was. others j u was) (λ same. subst P same here) (at_snoc seats k u j e)

pub late_count-append : (n : ℕ) (xs ys : List ℕ) → late_count n (xs ++ ys) ≡ late_count n xs + late_count n ys
late_count-append n xs ys = sum_by-append (λ y. cond (nat_le n y) 1 0) xs ys

pub times-append : (x : ℕ) (xs ys : List ℕ) → times x (xs ++ ys) ≡ times x xs + times x ys
times-append x xs ys = sum_by-append (λ y. cond (y == x) 1 0) xs ys

pub once_more : (x next : ℕ) → once_below x (next + 1) ≡ once_below x next + times x (next ∷ [])
once_more x next = grind (arith, nat_tests)

late_one : (n x : ℕ) → (late_count n (x ∷ []) ≤ 1) × (n ≤ x → late_count n (x ∷ []) ≡ 1)
late_one n x = (grind (arith, nat_tests), λ h. grind (arith, nat_tests))

-- claim: the seat draws the next number
pub claims : (n : ℕ) (s : State) (w : ℕ) (h : Seat) → get_elem? s.seats w ≡ some h → 0 < h.weight → ¬ (IsPast n h.drawn) → StateRule n s
    → StateRule n (state (s.next + 1) (set s.seats w (seat_with (h.drawn ++ s.next ∷ []) h.weight)))
claims n s w h at some_weight early k =
    let g = seat_with (h.drawn ++ s.next ∷ []) h.weight in
    let none : late_count n h.drawn ≡ 0 = omega (arith, early) in
    let one = late_one n s.next in
    let more = late_count-append n h.drawn (s.next ∷ []) in
    record {
      each_once = λ x. omega (arith, sum_at (λ u. times x u.drawn) s.seats w h g at, k.each_once x, times-append x h.drawn (s.next ∷ []), once_more x s.next);
      few_late = each_set (λ u. late_count n u.drawn ≤ u.weight) s.seats w g (omega arith) k.few_late;
      whole = omega (arith, sum_at (λ u. u.weight) s.seats w h g at, k.whole);
      spent = each_set (λ u. u.weight ≡ 0 → u.drawn ≡ []) s.seats w g (λ z. absurd (omega arith)) k.spent;
      counted = counts (sum_at (λ u. late_count n u.drawn) s.seats w h g at) none more one;
    }
  where
    counts : sum_by (λ u. late_count n u.drawn) (set s.seats w (seat_with (h.drawn ++ s.next ∷ []) h.weight)) + late_count n h.drawn ≡ sum_by (λ u. late_count n u.drawn) s.seats + late_count n (h.drawn ++ s.next ∷ [])
        → late_count n h.drawn ≡ 0 → late_count n (h.drawn ++ s.next ∷ []) ≡ late_count n h.drawn + late_count n (s.next ∷ []) → (late_count n (s.next ∷ []) ≤ 1) × (n ≤ s.next → late_count n (s.next ∷ []) ≡ 1)
        → s.next + 1 ≤ n + sum_by (λ u. late_count n u.drawn) (set s.seats w (seat_with (h.drawn ++ s.next ∷ []) h.weight))
    counts sums none more one = let c = k.counted in ⊎_elim (λ (l : s.next < n). omega arith) (λ (l : n ≤ s.next). let o = one.1 l in omega arith) (cases_lt s.next n)

pub splits : (n : ℕ) (s : State) (w : ℕ) (h : Seat) → get_elem? s.seats w ≡ some h → ¬ (IsPast n h.drawn) → 2 ≤ h.weight → StateRule n s
    → StateRule n (state s.next (set s.seats w (seat_with h.drawn (h.weight - 1)) ++ seat_with [] 1 ∷ []))
splits n s w h at early heavy k =
    let g = seat_with h.drawn (h.weight - 1) in
    let new = seat_with [] 1 in
    let rest = set s.seats w g in
    let none : late_count n h.drawn ≡ 0 = omega (arith, early) in
    record {
      each_once = λ x. omega (arith, sum_at (λ u. times x u.drawn) s.seats w h g at, sum_by_push (λ u. times x u.drawn) rest new, k.each_once x);
      few_late = each_push (λ u. late_count n u.drawn ≤ u.weight) rest new (omega arith) (each_set (λ u. late_count n u.drawn ≤ u.weight) s.seats w g (omega arith) k.few_late);
      whole = omega (arith, sum_at (λ u. u.weight) s.seats w h g at, sum_by_push (λ u. u.weight) rest new, k.whole);
      spent = each_push (λ u. u.weight ≡ 0 → u.drawn ≡ []) rest new (λ z. refl) (each_set (λ u. u.weight ≡ 0 → u.drawn ≡ []) s.seats w g (λ z. absurd (omega arith)) k.spent);
      counted = omega (arith, sum_at (λ u. late_count n u.drawn) s.seats w h g at, sum_by_push (λ u. late_count n u.drawn) rest new, k.counted);
    }

pub joins : (n : ℕ) (s : State) (v w : ℕ) (h g : Seat) → get_elem? s.seats v ≡ some h → get_elem? (set s.seats v (seat_with (h.drawn ++ g.drawn) (h.weight + g.weight))) w ≡ some g → w ≢ v → 0 < h.weight → StateRule n s
    → StateRule n (state s.next (set (set s.seats v (seat_with (h.drawn ++ g.drawn) (h.weight + g.weight))) w (seat_with [] 0)))
joins n s v w h g at there apart heavy k =
    let both = seat_with (h.drawn ++ g.drawn) (h.weight + g.weight) in
    let mid = set s.seats v both in
    let left = seat_with [] 0 in
    let theirs : get_elem? s.seats w ≡ some g = ⊎_elim (λ (t : (w ≡ v) × (both ≡ g)). absurd (apart t.0)) (λ (t : (w ≢ v) × (get_elem? s.seats w ≡ some g)). t.1) (at_set s.seats v w both g there) in
    record {
      each_once = λ x. omega (arith, sum_at (λ u. times x u.drawn) s.seats v h both at, sum_at (λ u. times x u.drawn) mid w g left there, times-append x h.drawn g.drawn, k.each_once x);
      few_late = each_set (λ u. late_count n u.drawn ≤ u.weight) mid w left (omega arith)
          (each_set (λ u. late_count n u.drawn ≤ u.weight) s.seats v both (omega (arith, late_count-append n h.drawn g.drawn, k.few_late v h at, k.few_late w g theirs)) k.few_late);
      whole = omega (arith, sum_at (λ u. u.weight) s.seats v h both at, sum_at (λ u. u.weight) mid w g left there, k.whole);
      spent = each_set (λ u. u.weight ≡ 0 → u.drawn ≡ []) mid w left (λ z. refl) (each_set (λ u. u.weight ≡ 0 → u.drawn ≡ []) s.seats v both (λ z. absurd (omega arith)) k.spent);
      counted = omega (arith, sum_at (λ u. late_count n u.drawn) s.seats v h both at, sum_at (λ u. late_count n u.drawn) mid w g left there, late_count-append n h.drawn g.drawn, k.counted);
    }

one_seat : (P : Seat → Type 0) (k : Seat) → P k → EachSeat P (k ∷ [])
one_seat P k here zero u e = subst P (some-injective k u e) here
one_seat P k here (suc j) u e = absurd (some-ne-none u (sym e))

pub opens : (n : ℕ) → StateRule n opening
opens n = record {
  each_once = λ x. grind (arith, nat_tests);
  few_late = one_seat (λ u. late_count n u.drawn ≤ u.weight) (seat_with [] 1024) (omega arith);
  whole = refl;
  spent = one_seat (λ u. u.weight ≡ 0 → u.drawn ≡ []) (seat_with [] 1024) (λ z. refl);
  counted = omega arith;
}

happens : (n : ℕ) (s : State) (e : Event) (t : State) → Happens n s e t → StateRule n s → StateRule n t
happens n s (claim w) t x k = subst (StateRule n) (sym x.3) (claims n s w x.0 x.1.0 x.1.1 x.2 k)
happens n s (split w) t x k = subst (StateRule n) (sym x.4) (splits n s w x.0 x.1.0 x.2 x.3 k)
happens n s (join v w) t x k =
    let h = x.0 in
    let g = x.1 in
    let apart : w ≢ v = λ e. x.4 (sym e) in
    subst (StateRule n) (sym x.5) (joins n s v w h g x.2.0 (set_else s.seats v w (seat_with (h.drawn ++ g.drawn) (h.weight + g.weight)) apart ∙ x.3.0) apart x.2.1 k)

pub follows : (n : ℕ) (es : List Event) (s t : State) → Follows n s es t → StateRule n s → StateRule n t
follows n [] s t same k = subst (StateRule n) same k
follows n (e ∷ es) s t x k = follows n es x.0 t x.2 (happens n s e x.0 x.1 k)

sum_le : (f g : Seat → ℕ) (seats : List Seat) → EachSeat (λ h. f h ≤ g h) seats → sum_by f seats ≤ sum_by g seats
sum_le f g [] all = omega arith
sum_le f g (x ∷ xs) all = omega (arith, sum_by-cons f x xs, sum_by-cons g x xs, all zero x refl, sum_le f g xs (λ j u e. all (suc j) u e))

pub bounded : (n : ℕ) (s : State) → StateRule n s → s.next ≤ n + 1024
bounded n s k = omega (arith, k.counted, k.whole, sum_le (λ h. late_count n h.drawn) (λ h. h.weight) s.seats k.few_late)

pub sound : (n : ℕ) (s : State) → StateRule n s → IsSound n s
sound n s k = record {
  each_once = k.each_once;
  few_late = k.few_late;
  none_late = λ w h at early. omega (arith, early);
  whole = k.whole;
  bounded = bounded n s k;
}
