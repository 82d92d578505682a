-- What a stable sort by a comparison of pairs ensures.
use Rattle.std.proofs.Common.{◌≡◌, Bool, List, ap}
use Rattle.std.specs.Prelude.{IsSorted}
use Rattle.std.specs.declared.cmp.Ordering.{Ordering}
use Rattle.std.specs.Ordering.{is_lt}
use Rattle.std.specs.Cmp.{IsTotalOrder}
use Rattle.std.specs.Fn.{Called}
use Rattle.std.specs.List.Sorted.{IsSortedByClosure}
use Rattle.std.proofs.lemmas.List.Sorted.{ranks_by, answers_always}
use denote.Ref.{Bor}
use denote.Param.Members.{Mut}

-- where each call of the closure answers by a total order, the list is sorted by it
pub sorted_by_order : {F X : Type 0} (g : Mut F (Bor X × (Bor X × Unit {0})) Ordering) (f : F) (cmp : X → X → Ordering) → IsTotalOrder cmp → ((f : F) (a : Bor X × (Bor X × Unit {0})) (r : Ordering) (f' : F) → Called g f a r f' → r ≡ cmp a.0.now a.1.0.now) → (xs : List X) → IsSortedByClosure g f xs → IsSorted cmp xs
sorted_by_order {F} {X} g f cmp total says xs s =
    let lt : X → X → Bool = λ x y. is_lt (cmp x y) in
    s lt (ranks_by total (λ (x : X). x)) (answers_always g (λ a r. is_lt r ≡ lt a.0.now a.1.0.now) f (λ h a r k call. ap is_lt (says h a r k call)))
