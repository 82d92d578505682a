-- Steps in their order, one more at a time.
use Rattle.std.proofs.Common.{◌≡◌, ◌⊎◌, inl, inr, ℕ, zero, suc, ◌+◌, ◌<◌, ◌≤◌, List, [], ◌∷◌, ◌++◌, length, get_or, map, take, drop, refl, ap, arith, sym, ◌∙◌, subst, ⊎_elim}
use Rattle.std.proofs.lemmas.List.{get_or-map, get_or_default, map-append, take_more}
use Rattle.std.specs.declared.vec.Vec.{Vec}
use Rattle.std.specs.declared.alloc.Global.{Global}
use Rattle.tb_delta.specs.Promise.State.{State}
use Rattle.tb_delta.specs.Promise.Steps.{AreAccepted, IsAccepted, IsRefusedFor, Step, after, insert, remove, stepped, told, told_each}
use Rattle.tb_delta.specs.Running.{IsBehind, IsRefused, IsStopped, lists_of, step_of, steps_of}
use Rattle.tb_delta.specs.declared.fault.DeltaFault.{DeltaFault}
use Rattle.tb_delta.specs.declared.fault.DeltaFault.TheVariants as fault
use Rattle.tb_delta.specs.declared.running.Step.{Step as RustStep}

after-append : (s : State) (xs ys : List Step) → after s (xs ++ ys) ≡ after (after s xs) ys
after-append s [] ys = refl
after-append s (x ∷ xs) ys = after-append (stepped s x) xs ys

accepted-append : (s : State) (xs ys : List Step) → AreAccepted s xs → AreAccepted (after s xs) ys → AreAccepted s (xs ++ ys)
accepted-append s [] ys a b = b
accepted-append s (x ∷ xs) ys a b = (a.0, accepted-append (stepped s x) xs ys a.1 b)

told-append : (s : State) (xs ys : List Step) → told_each s (xs ++ ys) ≡ told_each s xs ++ told_each (after s xs) ys
told-append s [] ys = refl
told-append s (x ∷ xs) ys = ap (λ (l : List (List ℕ)). told s x ∷ l) (told-append (stepped s x) xs ys)

-- THE STEPS THAT ARE LEFT

pub next_low : {X : Type 0} (xs : List X) (k : ℕ) (x : X) (rest : List X) → drop k xs ≡ x ∷ rest → k < length xs
next_low [] zero x rest e = absurd (cc)
next_low [] (suc k) x rest e = absurd (cc)
next_low (y ∷ xs) zero x rest e = omega arith
next_low (y ∷ xs) (suc k) x rest e = omega (arith, next_low xs k x rest e)

abbrev head_of : {X : Type 0} → List X → X → X
head_of [] d = d
head_of (x ∷ xs) d = x

abbrev tail_of : {X : Type 0} → List X → List X
tail_of [] = []
tail_of (x ∷ xs) = xs

pub next_is : {X : Type 0} (xs : List X) (k : ℕ) (x : X) (rest : List X) → drop k xs ≡ x ∷ rest → x ≡ get_or xs k x
next_is [] zero x rest e = refl
next_is [] (suc k) x rest e = refl
next_is (y ∷ xs) zero x rest e = sym (ap (λ l. head_of l x) e)
next_is (y ∷ xs) (suc k) x rest e = next_is xs k x rest e

later : {X : Type 0} (xs : List X) (k : ℕ) (x : X) (rest : List X) → drop k xs ≡ x ∷ rest → rest ≡ drop (suc k) xs
later [] zero x rest e = absurd (cc)
later [] (suc k) x rest e = absurd (cc)
later (y ∷ xs) zero x rest e = sym (ap tail_of e)
later (y ∷ xs) (suc k) x rest e = later xs k x rest e

pub next_left : {X : Type 0} (xs : List X) (k : ℕ) (x : X) (rest : List X) → drop k xs ≡ x ∷ rest → rest ≡ drop (k + 1) xs
next_left xs k x rest e = let next : suc k ≡ k + 1 = omega arith in later xs k x rest e ∙ ap (λ n. drop n xs) next

-- ONE MORE

pub behind_more : (s : State) (xs : List Step) (k : ℕ) (x : Step) (n m : State) → IsBehind s xs k n → k < length xs → x ≡ get_or xs k x → IsAccepted n x → m ≡ stepped n x → IsBehind s xs (k + 1) m
behind_more s xs k x n m b low is may made =
    let more : take k xs ++ x ∷ [] ≡ take (k + 1) xs = ap (λ (y : Step). take k xs ++ y ∷ []) is ∙ sym (take_more xs k x low) in
    record {
      within = omega (arith, low);
      accepted = subst (λ (l : List Step). AreAccepted s l) more (accepted-append s (take k xs) (x ∷ []) b.accepted (subst (λ (t : State). IsAccepted t x) b.state may, tt));
      state = made ∙ ap (λ (t : State). stepped t x) b.state ∙ sym (after-append s (take k xs) (x ∷ [])) ∙ ap (after s) more;
    }

pub told_more : (s : State) (xs : List Step) (k : ℕ) (x : Step) (n : State) (vs : List (Vec ℕ Global)) (v : Vec ℕ Global) → IsBehind s xs k n → k < length xs → x ≡ get_or xs k x
    → v.items ≡ told n x → lists_of vs ≡ told_each s (take k xs) → lists_of (vs ++ v ∷ []) ≡ told_each s (take (k + 1) xs)
told_more s xs k x n vs v b low is tells so_far =
    let more : take k xs ++ x ∷ [] ≡ take (k + 1) xs = ap (λ (y : Step). take k xs ++ y ∷ []) is ∙ sym (take_more xs k x low) in
    map-append (λ (w : Vec ℕ Global). w.items) vs (v ∷ [])
    ∙ (λ t. so_far t ++ (tells ∙ ap (λ (u : State). told u x) b.state) t ∷ [])
    ∙ sym (told-append s (take k xs) (x ∷ []))
    ∙ ap (told_each s) more

-- A STEP THAT ENDS IT

memory_wanting : (s : State) (x : Step) → IsAccepted s x → IsRefusedFor s x fault.OutOfMemory
memory_wanting s (insert d row) may = may
memory_wanting s (remove d id) may = tt

asked : (s : State) (xs : List Step) (k : ℕ) (x : Step) (n : State) (f : DeltaFault) → n ≡ after s (take k xs) → k < length xs → x ≡ get_or xs k x → IsRefusedFor n x f
    → (d : Step) → IsRefusedFor (after s (take k xs)) (get_or xs k d) f
asked s xs k x n f state low is why d =
    subst (λ (y : Step). IsRefusedFor (after s (take k xs)) y f) (is ∙ get_or_default xs k x d low) (subst (λ (t : State). IsRefusedFor t x f) state why)

pub stopped_done : (s : State) (xs : List Step) (k j : ℕ) (x : Step) (n m : State) → j ≡ k → IsBehind s xs k n → k < length xs → x ≡ get_or xs k x → IsAccepted n x → m ≡ stepped n x
    → IsStopped s xs m (record { step = j; fault = fault.OutOfMemory })
stopped_done s xs k j x n m same b low is may made =
    subst (λ i. IsStopped s xs m (record { step = i; fault = fault.OutOfMemory })) (sym same) (record {
      there = low;
      before = record { within = b.within; accepted = b.accepted; state = refl };
      refused = asked s xs k x n fault.OutOfMemory b.state low is (memory_wanting n x may);
      left = inr (refl, behind_more s xs k x n m b low is may made);
    })

pub stopped_refused : (s : State) (xs : List Step) (k j : ℕ) (x : Step) (n m : State) (f : DeltaFault) → j ≡ k → IsBehind s xs k n → k < length xs → x ≡ get_or xs k x → IsRefused n x m f
    → IsStopped s xs m (record { step = j; fault = f })
stopped_refused s xs k j x n m f same b low is done =
    subst (λ i. IsStopped s xs m (record { step = i; fault = f })) (sym same) (record {
      there = low;
      before = record { within = b.within; accepted = b.accepted; state = refl };
      refused = asked s xs k x n f b.state low is done.0;
      left = ⊎_elim
          (λ e. inl (record { within = b.within; accepted = b.accepted; state = e ∙ b.state }))
          (λ p. inr (p.0, behind_more s xs k x n m b low is p.1 p.2))
          done.1;
    })

-- what is asked at a place
pub step_is : (all : List RustStep) (k : ℕ) (x : RustStep) → k < length all → x ≡ get_or all k x → step_of x ≡ get_or (steps_of all) k (step_of x)
step_is all k x low is = ap step_of is ∙ sym (get_or-map step_of all k x (step_of x) low)
