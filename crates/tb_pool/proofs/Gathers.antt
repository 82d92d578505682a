-- What the workers bring back, taken in one by one.
use Rattle.std.proofs.Common.{◌≡◌, ℕ, ◌+◌, ◌<◌, ◌≤◌, ◌==◌, cond, List, [], ◌∷◌, ◌++◌, map, length, get_or, refl, sym, ap, ◌∙◌, subst, ⊎_elim, arith, sum_by}
use Rattle.std.specs.Prelude.{All, slice_index_or}
use Rattle.std.specs.List.{remove}
use Rattle.std.proofs.lemmas.List.Sums.{sum_by_push, sum_by-cons}
use Rattle.std.proofs.lemmas.List.Elements.{All-head, All-tail, All-cons, All-nil, All-push, All-append}
use Rattle.std.proofs.lemmas.Bool.Decides.{nat_tests}
use Rattle.std.proofs.lemmas.Bool.{cases_lt}
use Rattle.tb_pool.specs.declared.workers.Worker.{Worker}
use Rattle.tb_pool.specs.Core.{times, once_below}
use Rattle.tb_pool.specs.Running.{ClaimsView, SeatView, IsSeatOf}
use Rattle.tb_pool.specs.Workers.{HasEnded, IsLetIn}
use Rattle.tb_pool.specs.DoneView.{DoneView}
use Rattle.tb_pool.specs.Gathering.{Ascend, IsDone, IsGathered}
use Rattle.tb_pool.proofs.Keeps.{times-append}
use Rattle.tb_pool.proofs.Steps.{below_next}

pub map-append : {X Y : Type 0} (f : X → Y) (xs ys : List X) → map f (xs ++ ys) ≡ map f xs ++ map f ys
map-append f [] ys = refl
map-append f (x ∷ xs) ys = ap (λ l. f x ∷ l) (map-append f xs ys)

pub map-map : {X Y Z : Type 0} (f : X → Y) (g : Y → Z) (xs : List X) → map g (map f xs) ≡ map (λ x. g (f x)) xs
map-map f g [] = refl
map-map f g (x ∷ xs) = ap (λ l. g (f x) ∷ l) (map-map f g xs)

pub apart : (x y : ℕ) → x < y → times x (y ∷ []) ≡ 0
apart x y h = grind (arith, nat_tests)

same : (x : ℕ) → times x (x ∷ []) ≡ 1
same x = grind (arith, nat_tests)

-- a number above all of a list does not stand in it
pub not_there : (n : ℕ) (xs : List ℕ) (x : ℕ) → n ≤ x → All (λ y. y < n) xs → times x xs ≡ 0
not_there n [] x le all = refl
not_there n (y ∷ ys) x le all =
    let here : y < n = All-head (λ z. z < n) y ys all in
    let rest : times x ys ≡ 0 = not_there n ys x le (All-tail (λ z. z < n) y ys all) in
    let one : cond {A = ℕ} (y == x) 1 0 ≡ 0 = apart_up x y (omega arith) in
    omega (arith, sum_by-cons (λ z. cond {A = ℕ} (z == x) 1 0) y ys)
  where
    apart_up : (x y : ℕ) → y < x → cond {A = ℕ} (y == x) 1 0 ≡ 0
    apart_up x y h = grind (arith, nat_tests)

pub once : (x n : ℕ) → (x < n → once_below x n ≡ 1) × (n ≤ x → once_below x n ≡ 0)
once x n = ((λ h. grind (arith, nat_tests)), (λ h. grind (arith, nat_tests)))

module _ {O : Type 0} where
  abbrev parts_of : List (ℕ × O) → List ℕ
  parts_of found = map (λ p. p.0) found

  pub All-unmap : (n : ℕ) (found : List (ℕ × O)) → All (λ x. x < n) (parts_of found) → All (λ p. p.0 < n) found
  All-unmap n [] all = All-nil (λ (p : ℕ × O). p.0 < n)
  All-unmap n (p ∷ ps) all = All-cons (λ (q : ℕ × O). q.0 < n) p ps (All-head (λ x. x < n) p.0 (parts_of ps) all) (All-unmap n ps (All-tail (λ x. x < n) p.0 (parts_of ps) all))

  pub All-pairs : (n : ℕ) (found : List (ℕ × O)) → All (λ p. p.0 < n) found → All (λ x. x < n) (parts_of found)
  All-pairs n [] all = All-nil (λ x. x < n)
  All-pairs n (p ∷ ps) all = All-cons (λ x. x < n) p.0 (parts_of ps) (All-head (λ (q : ℕ × O). q.0 < n) p ps all) (All-pairs n ps (All-tail (λ (q : ℕ × O). q.0 < n) p ps all))

  times_found : (x : ℕ) (a b : List (ℕ × O)) → times x (parts_of (a ++ b)) ≡ times x (parts_of a) + times x (parts_of b)
  times_found x a b = ap (times x) (map-append (λ (p : ℕ × O). p.0) a b) ∙ times-append x (parts_of a) (parts_of b)

  -- how often a number stands in what a worker has drawn
  times_drawn : (R : ℕ → O → Type 0) (n : ℕ) (w : Worker O) (e : HasEnded R n w) (x : ℕ) → times x w.seat.drawn ≡ times x (parts_of w.results.items) + times x (e.last ∷ [])
  times_drawn R n w e x = ap (times x) e.drawn ∙ times-append x w.claimed.items (e.last ∷ []) ∙ ap (λ (l : List ℕ). times x l + times x (e.last ∷ [])) e.paired

  pub begins : (R : ℕ → O → Type 0) (c : ClaimsView) (w : Worker O) → IsSeatOf c w.seat → HasEnded R c.bound w → IsGathered R c w.seat (w.claimed.items ∷ []) w.results.items
  begins R c w own e = record {
    own = own;
    drawn = λ x lt. let t = times_drawn R c.bound w e x in let z : times x (e.last ∷ []) ≡ 0 = apart x e.last (let l = e.is_late in omega arith) in omega arith;
    late_one = (e.last, e.is_late, (let t = times_drawn R c.bound w e e.last in let z : times e.last (e.last ∷ []) ≡ 1 = same e.last in omega arith));
    below = All-unmap c.bound w.results.items (subst (All (λ x. x < c.bound)) e.paired e.below);
    given = e.given;
    ascend = All-cons Ascend w.claimed.items [] e.ascends (All-nil Ascend);
    listed = λ x. (let one = sum_by-cons (times x) w.claimed.items [] in let l : times x w.claimed.items ≡ times x (parts_of w.results.items) = ap (times x) e.paired in omega arith);
  }

  pub takes_in : (R : ℕ → O → Type 0) (c : ClaimsView) (s t : SeatView) (w : Worker O) (lists more : List (List ℕ)) (found all : List (ℕ × O))
      → IsGathered R c s lists found → HasEnded R c.bound w → IsSeatOf c t → t.drawn ≡ s.drawn ++ w.seat.drawn → more ≡ lists ++ w.claimed.items ∷ [] → all ≡ found ++ w.results.items
      → IsGathered R c t more all
  takes_in R c s t w lists more found all k e own drawn more_is all_is =
      let parts : (x : ℕ) → times x (parts_of all) ≡ times x (parts_of found) + times x (parts_of w.results.items) = λ x. ap (λ (l : List (ℕ × O)). times x (parts_of l)) all_is ∙ times_found x found w.results.items in
      let seat : (x : ℕ) → times x t.drawn ≡ times x s.drawn + times x w.seat.drawn = λ x. ap (times x) drawn ∙ times-append x s.drawn w.seat.drawn in
      record {
        own = own;
        drawn = λ x lt.
            let a = times_drawn R c.bound w e x in
            let z : times x (e.last ∷ []) ≡ 0 = apart x e.last (let l = e.is_late in omega arith) in
            let b = parts x in
            let d = seat x in
            let before = k.drawn x lt in
            omega arith;
        late_one = (k.late_one.0, k.late_one.1, (let d = seat k.late_one.0 in let h = k.late_one.2 in omega arith));
        below = subst (All (λ p. p.0 < c.bound)) (sym all_is) (All-append (λ p. p.0 < c.bound) found w.results.items k.below (All-unmap c.bound w.results.items (subst (All (λ x. x < c.bound)) e.paired e.below)));
        given = subst (All (λ p. R p.0 p.1)) (sym all_is) (All-append (λ p. R p.0 p.1) found w.results.items k.given e.given);
        ascend = subst (All Ascend) (sym more_is) (All-push Ascend lists w.claimed.items k.ascend e.ascends);
        listed = λ x. ap (sum_by (times x)) more_is ∙ sum_by_push (times x) lists w.claimed.items ∙ (λ i. k.listed x i + times x (e.paired i)) ∙ sym (parts x);
      }

  -- who has all the weight and the word has found each part below the bound once
  pub settles : (R : ℕ → O → Type 0) (c : ClaimsView) (s : SeatView) (lists : List (List ℕ)) (found : List (ℕ × O)) (word : ℕ)
      → IsGathered R c s lists found → ((x : ℕ) → times x s.drawn ≡ once_below x word) → (x : ℕ) → times x (parts_of found) ≡ once_below x c.bound
  settles R c s lists found word k whole x = ⊎_elim
      (λ (lt : x < c.bound).
      let y = k.late_one.0 in
      let far : y < word = below_next y word (let a = whole y in let b = k.late_one.2 in omega arith) in
      let le : c.bound ≤ y = k.late_one.1 in
      sym (k.drawn x lt) ∙ whole x ∙ (once x word).0 (omega arith) ∙ sym ((once x c.bound).0 lt))
      (λ (le : c.bound ≤ x). not_there c.bound (parts_of found) x le (All-pairs c.bound found k.below) ∙ sym ((once x c.bound).1 le))
      (cases_lt x c.bound)

  -- the first worker is taken out
  pub first_out : (ws rest : List (Worker O)) (w : Worker O) → 0 < length ws → w ≡ get_or ws 0 w → rest ≡ remove ws 0 → ws ≡ w ∷ rest
  first_out [] rest w some is left = absurd (omega arith)
  first_out (x ∷ xs) rest w some is left = λ i. sym is i ∷ sym left i

  -- each part was let in, where each has a result of a part that was
  pub all_let_in : (L : ℕ → Type 0) (R : ℕ → O → Type 0) (n workers : ℕ) (d : DoneView O) → IsDone (IsLetIn L R) n workers d → (part : ℕ) → part < n → L part
  all_let_in L R n workers d k part lt = from_some d.results k.count k.each
    where
      from_some : (xs : List O) → length xs ≡ n → ((p : ℕ) (x : O) → p < n → IsLetIn L R p (slice_index_or xs p x)) → L part
      from_some [] count each = absurd (omega arith)
      from_some (x ∷ xs) count each = (each part x lt).0

  pub done_of_let_in : (L : ℕ → Type 0) (R : ℕ → O → Type 0) (n seated workers : ℕ) (d : DoneView O) → IsDone (IsLetIn L R) n seated d → seated ≡ workers → IsDone R n workers d
  done_of_let_in L R n seated workers d k all = record {
    count = k.count;
    each = λ part x lt. (k.each part x lt).1;
    lists = k.lists ∙ all;
    ascend = k.ascend;
    claimed_once = k.claimed_once;
  }
