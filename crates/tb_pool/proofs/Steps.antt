-- Each step on the word keeps the rule.
use Rattle.std.proofs.Common.{◌≡◌, ℕ, zero, suc, ◌+◌, ◌%◌, ◌^◌, ◌<◌, ◌≤◌, ◌==◌, cond, Bool, List, [], ◌∷◌, ◌++◌, length, set, get_or, refl, sym, ap, ◌∙◌, subst, arith}
use Rattle.std.specs.Prelude.{nat_lt, IsTrue, slice_index, slice_set, All, sum_by}
use Rattle.std.proofs.lemmas.List.Sums.{get_or-le-sum_by, sum_by-cons}
use Rattle.std.proofs.lemmas.Bool.Decides.{nat_tests}
use mathlib.Core.Option.{some, some-ne-none, some-injective}
use lib.ListN.{get_elem?}
use Rattle.atomic_table.specs.Table.{Me, Allows, Splits, Joins, Final, Seen, keeps}
use Rattle.tb_pool.specs.declared.seat.Seat.{Seat}
use Rattle.tb_pool.specs.Core.{seat_with, times, once_below, IsPast, state, StateRule, EachSeat}
use Rattle.tb_pool.specs.Running.{WordRule, Drew, lighter_seat, joined_seat}
use Rattle.tb_pool.proofs.Keeps.{claims, splits, joins, bounded}

seat_le : (f : Seat → ℕ) (seats : List Seat) (w : ℕ) (h : Seat) → get_elem? seats w ≡ some h → f h ≤ sum_by f seats
seat_le f [] w h e = absurd (some-ne-none h (sym e))
seat_le f (x ∷ xs) zero h e = let same : x ≡ h = some-injective x h e in let y : f x ≡ f h = ap f same in omega (arith, sum_by-cons f x xs)
seat_le f (x ∷ xs) (suc w) h e = omega (arith, sum_by-cons f x xs, seat_le f xs w h e)

counts_itself : (x : ℕ) → let one : ℕ = 1 in cond (x == x) one 0 ≡ one
counts_itself x = grind (arith, nat_tests)

pub stands : (xs : List ℕ) (k d : ℕ) → k < length xs → 1 ≤ times (get_or xs k d) xs
stands xs k d lt = let x = get_or xs k d in let e = counts_itself x in let le : cond (x == x) 1 0 ≤ times x xs = get_or-le-sum_by (λ y. cond (y == x) 1 0) xs k d lt in omega arith

pub below_next : (x next : ℕ) → 1 ≤ once_below x next → x < next
below_next x next h = grind (arith, nat_tests)

-- what a seat has drawn is below the next number
pub drawn_below : (n next : ℕ) (seats : List Seat) (w : ℕ) (h : Seat) → get_elem? seats w ≡ some h → StateRule n (state next seats) → All (λ y. y < next) h.drawn
drawn_below n next seats w h at k i d lt =
    let x = get_or h.drawn i d in
    below_next x next (omega (arith, stands h.drawn i d lt, seat_le (λ u. times x u.drawn) seats w h at, k.each_once x))

-- a flag that tells whether a number is positive
pub told : (b : Bool) (k : ℕ) → b ≡ nat_lt 0 k → (IsTrue b → 0 < k) × (0 < k → IsTrue b)
told b k e = (λ t. grind (arith, nat_tests), λ h. grind (arith, nat_tests))

one_word : (words : List ℕ) (v : ℕ) → words ≡ slice_index words 0 ∷ [] → slice_set words 0 v ≡ v ∷ []
one_word words v e = ap (λ l. slice_set l 0 v) e

none_left : (f : Seat → ℕ) (seats : List Seat) → sum_by (λ u. u.weight) seats ≡ 0 → EachSeat (λ u. u.weight ≡ 0 → f u ≡ 0) seats → sum_by f seats ≡ 0
none_left f [] e all = refl
none_left f (x ∷ xs) e all =
    let weights = sum_by-cons (λ (u : Seat). u.weight) x xs in
    let fs = sum_by-cons f x xs in
    let here : f x ≡ 0 = all zero x refl (omega arith) in
    let rest : sum_by f xs ≡ 0 = none_left f xs (omega arith) (λ j u p. all (suc j) u p) in
    omega arith

-- a sum that counts no seat of weight 0 counts one seat alone, where that one has all the weight
pub alone : (f : Seat → ℕ) (seats : List Seat) (w : ℕ) (h : Seat) → get_elem? seats w ≡ some h → sum_by (λ u. u.weight) seats ≡ h.weight → EachSeat (λ u. u.weight ≡ 0 → f u ≡ 0) seats → sum_by f seats ≡ f h
alone f [] w h at e all = absurd (some-ne-none h (sym at))
alone f (x ∷ xs) zero h at e all =
    let weights = sum_by-cons (λ (u : Seat). u.weight) x xs in
    let fs = sum_by-cons f x xs in
    let same : x ≡ h = some-injective x h at in
    let heavy : x.weight ≡ h.weight = ap (λ (u : Seat). u.weight) same in
    let here : f x ≡ f h = ap f same in
    let rest : sum_by f xs ≡ 0 = none_left f xs (omega arith) (λ j u p. all (suc j) u p) in
    omega arith
alone f (x ∷ xs) (suc w) h at e all =
    let weights = sum_by-cons (λ (u : Seat). u.weight) x xs in
    let fs = sum_by-cons f x xs in
    let le = seat_le (λ u. u.weight) xs w h at in
    let here : f x ≡ 0 = all zero x refl (omega arith) in
    let rest : sum_by f xs ≡ f h = alone f xs w h at (omega arith) (λ j u p. all (suc j) u p) in
    omega arith

module _ {S : Type 0} where
  pub draws : (n slots id : ℕ) (me : Me S Seat) → 0 < me.0.weight → ¬ (IsPast n me.0.drawn) → Allows (WordRule n) slots id me 0 (λ m. (m + 1) % 2 ^ 64) (Drew me)
  draws n slots id me heavy early s h len at fits =
      let next = slice_index s.words 0 in
      let v = (next + 1) % 2 ^ 64 in
      let w = seat_with (me.0.drawn ++ next ∷ []) me.0.weight in
      let small : next ≤ n + 1024 = bounded n (state next s.views) h.2 in
      let v_is : v ≡ next + 1 = wraps_not n next h.0 small in
      let words = one_word s.words v h.1 in
      let now : slice_index (slice_set s.words 0 v) 0 ≡ v = ap (λ l. slice_index l 0) words in
      let kept : StateRule n (state (next + 1) (set s.views id w)) = claims n (state next s.views) id me.0 at heavy early h.2 in (
        w,
        keeps,
        tt,
        (h.0, words ∙ ap (λ x. x ∷ []) (sym now), subst (λ (x : ℕ). StateRule n (state x (set s.views id w))) (sym (now ∙ v_is)) kept),
        (refl, refl, drawn_below n next s.views id me.0 at h.2),
      )
    where
      wraps_not : (n next : ℕ) → n < 2 ^ 32 → next ≤ n + 1024 → (next + 1) % 2 ^ 64 ≡ next + 1
      wraps_not n next a b = omega arith

  pub gives : (n id : ℕ) (h : Seat) → ¬ (IsPast n h.drawn) → 2 ≤ h.weight → Splits {S = S} (WordRule n) id h (lighter_seat h) (seat_with [] 1)
  gives n id h early heavy s r at = (r.0, r.1, splits n (state (slice_index s.words 0) s.views) id h at early heavy r.2)

  pub meets : (n id : ℕ) (h : Seat) (other : ℕ) (g : Seat) → 0 < h.weight → Joins {S = S} (WordRule n) id h other g (joined_seat h g) (seat_with [] 0)
  meets n id h other g heavy s r at apart there = (r.0, r.1, joins n (state (slice_index s.words 0) s.views) id other h g at there apart heavy r.2)

  -- who has all the weight has drawn each number below the word once
  pub closes : (n id : ℕ) (h : Seat) (words : List ℕ) (slots : List S) (word : ℕ) → h.weight ≡ 1024 → Final (Seen (WordRule n) id h) words slots → get_elem? words 0 ≡ some word → (x : ℕ) → times x h.drawn ≡ once_below x word
  closes n id h words slots word all f at x =
      let s = f.0 in
      let r = f.1.0 in
      let next = slice_index s.words 0 in
      let k = r.2 in
      let word_is : next ≡ word = some-injective next word (sym (ap (λ l. get_elem? l 0) (sym f.2 ∙ r.1)) ∙ at) in
      let one = alone (λ u. times x u.drawn) s.views id h f.1.1 (k.whole ∙ sym all) (λ j u e z. ap (times x) (k.spent j u e z)) in
      sym one ∙ k.each_once x ∙ ap (once_below x) word_is
