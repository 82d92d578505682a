-- A record for each worker, and the weights of their seats.
use Rattle.std.proofs.Common.{◌≡◌, ℕ, suc, ◌+◌, ◌-◌, ◌≤◌, false, List, [], ◌∷◌, ◌++◌, length, refl, sym, ap, ◌∙◌, subst, arith, sum_by}
use Rattle.std.specs.List.{insert}
use Rattle.std.proofs.lemmas.List.Sums.{sum_by_push, sum_by-cons}
use Rattle.tb_pool.specs.declared.workers.Worker.{Worker}
use Rattle.tb_pool.specs.Running.{ClaimsView, SeatView, IsSeatOf}
use Rattle.tb_pool.specs.Workers.{IsReady, HasWorked, PlaceByPlace}

module _ {O : Type 0} where
  pub weights_more : (ws new : List (Worker O)) (w : Worker O) (first after : ℕ) → new ≡ ws ++ w ∷ [] → w.seat.weight ≡ 1 → after ≡ first - 1 → 1 ≤ first
      → sum_by (λ (u : Worker O). u.seat.weight) ws + first ≡ 1024 → sum_by (λ (u : Worker O). u.seat.weight) new + after ≡ 1024
  weights_more ws new w first after is one less some all =
      let f = λ (u : Worker O). u.seat.weight in
      let a : sum_by f new ≡ sum_by f (ws ++ w ∷ []) = ap (sum_by f) is in
      let b = sum_by_push f ws w in
      omega arith

  pub ready : (c : ClaimsView) (s : SeatView) (w : Worker O) → IsSeatOf c s → s.drawn ≡ [] → w.seat ≡ s → w.claimed.items ≡ [] → w.results.items ≡ [] → w.wanting ≡ false → IsReady c w
  ready c s w own none is claimed results fine = record {
    own = subst (IsSeatOf c) (sym is) own;
    none_drawn = ap (λ (t : SeatView). t.drawn) is ∙ none;
    none_claimed = claimed;
    no_results = results;
    not_wanting = fine;
  }

  pub same_weights : (R : ℕ → O → Type 0) (c : ClaimsView) (xs ys : List (Worker O)) → length ys ≡ length xs → PlaceByPlace (HasWorked R c) xs ys → sum_by (λ (u : Worker O). u.seat.weight) ys ≡ sum_by (λ (u : Worker O). u.seat.weight) xs
  same_weights R c [] [] len each = refl
  same_weights R c [] (y ∷ ys) len each = absurd (omega arith)
  same_weights R c (x ∷ xs) [] len each = absurd (omega arith)
  same_weights R c (x ∷ xs) (y ∷ ys) len each =
      let f = λ (u : Worker O). u.seat.weight in
      let here : f y ≡ f x = (each 0 x (omega arith)).weight in
      let rest : sum_by f ys ≡ sum_by f xs = same_weights R c xs ys (omega arith) (λ k d lt. each (suc k) d (omega arith)) in
      omega (arith, sum_by-cons f x xs, sum_by-cons f y ys)
