-- A worker's loop, and workers in halves.
use Rattle.std.proofs.Common.{◌≡◌, ℕ, ◌+◌, ◌<◌, ◌≤◌, false, List, [], ◌∷◌, ◌++◌, map, refl, sym, ap, ◌∙◌, subst, arith}
use Rattle.std.specs.Prelude.{All, AllPairs, cond, nat_le}
use Rattle.std.proofs.lemmas.Bool.Decides.{nat_tests}
use Rattle.tb_pool.specs.Core.{late_count, IsPast}
use Rattle.std.specs.List.{fold}
use Rattle.std.proofs.lemmas.List.Sums.{fold_push, sum_by-cons}
use Rattle.std.proofs.lemmas.List.Elements.{All-head, All-tail, All-push}
use Rattle.std.proofs.lemmas.List.Quantifiers.{all_pairs_push}
use Rattle.tb_pool.specs.declared.workers.Worker.{Worker}
use Rattle.tb_pool.specs.Running.{ClaimsView, IsSeatOf}

-- one more than the last number, 0 of none
abbrev pub above : List ℕ → ℕ
above xs = fold (λ _ y. y + 1) 0 xs

early_one : (n x : ℕ) → x < n → cond {A = ℕ} (nat_le n x) 1 0 ≡ 0
early_one n x h = grind (arith, nat_tests)

-- none of the numbers below n is late
pub none_late : (n : ℕ) (xs : List ℕ) → All (λ x. x < n) xs → late_count n xs ≡ 0
none_late n [] all = refl
none_late n (x ∷ xs) all =
    let here : x < n = All-head (λ z. z < n) x xs all in
    let rest : late_count n xs ≡ 0 = none_late n xs (All-tail (λ z. z < n) x xs all) in
    let one = early_one n x here in
    omega (arith, sum_by-cons (λ y. cond (nat_le n y) 1 0) x xs)

module _ {O : Type 0} where
  -- at each turn of its loop: it has drawn just what it claimed
  pub record IsAtWork (R : ℕ → O → Type 0) (c : ClaimsView) (w v : Worker O) : Type 0 where
    pub own : IsSeatOf c v.seat
    pub weight : v.seat.weight ≡ w.seat.weight
    pub drawn : v.seat.drawn ≡ v.claimed.items
    pub below : All (λ x. x < c.bound) v.claimed.items
    pub ascends : AllPairs (λ x y. x < y) v.claimed.items
    pub paired : v.claimed.items ≡ map (λ p. p.0) v.results.items
    pub given : All (λ p. R p.0 p.1) v.results.items
    pub not_wanting : v.wanting ≡ false

  pub never_past : (R : ℕ → O → Type 0) (c : ClaimsView) (w v : Worker O) → IsAtWork R c w v → ¬ (IsPast c.bound v.seat.drawn)
  never_past R c w v k past = let e = none_late c.bound v.claimed.items k.below in let h = subst (λ xs. 0 < late_count c.bound xs) k.drawn past in omega arith

  -- a turn: v' is v with one part more, and its result
  pub goes_on : (R : ℕ → O → Type 0) (c : ClaimsView) (w v v' : Worker O) (part : ℕ) (out : O) → IsAtWork R c w v
      → IsSeatOf c v'.seat → v'.seat.weight ≡ v.seat.weight → v'.seat.drawn ≡ v.seat.drawn ++ part ∷ [] → All (λ y. y < part) v.seat.drawn → part < c.bound
      → v'.claimed.items ≡ v.claimed.items ++ part ∷ [] → v'.results.items ≡ v.results.items ++ (part, out) ∷ [] → R part out → v'.wanting ≡ v.wanting → IsAtWork R c w v'
  goes_on R c w v v' part out k own weight drawn above_all small claimed results given wanting = record {
    own = own;
    weight = weight ∙ k.weight;
    drawn = drawn ∙ ap (λ xs. xs ++ part ∷ []) k.drawn ∙ sym claimed;
    below = subst (All (λ x. x < c.bound)) (sym claimed) (All-push (λ x. x < c.bound) v.claimed.items part k.below small);
    ascends = subst (AllPairs (λ x y. x < y)) (sym claimed) (all_pairs_push (λ x y. x < y) v.claimed.items part k.ascends (subst (All (λ y. y < part)) k.drawn above_all));
    paired = claimed ∙ ap (λ xs. xs ++ part ∷ []) k.paired ∙ sym (map-append v.results.items (part, out)) ∙ ap (map (λ p. p.0)) (sym results);
    given = subst (All (λ p. R p.0 p.1)) (sym results) (All-push (λ p. R p.0 p.1) v.results.items (part, out) k.given given);
    not_wanting = wanting ∙ k.not_wanting;
  }
    where
      map-append : (ps : List (ℕ × O)) (p : ℕ × O) → map (λ (q : ℕ × O). q.0) (ps ++ p ∷ []) ≡ map (λ (q : ℕ × O). q.0) ps ++ p.0 ∷ []
      map-append [] p = refl
      map-append (q ∷ ps) p = ap (λ xs. q.0 ∷ xs) (map-append ps p)
