-- A number is taken out of ascending ones.
use Rattle.std.proofs.Common.{◌≡◌, ℕ, zero, suc, ◌+◌, ◌<◌, ◌≤◌, Bool, true, false, cond, not, nat_eq, List, [], ◌∷◌, ◌++◌, length, get_or, take, drop, refl, ap, arith, sym, ◌∙◌, subst}
use Rattle.std.specs.Prelude.{filter, All, AllPairs}
use Rattle.std.proofs.lemmas.List.Kept.{AllPairs-cons}
use Rattle.std.proofs.lemmas.List.Elements.{All-push, All-tail}
use Rattle.tb_delta.specs.Groups.{without}

filter_all : (p : ℕ → Bool) (xs : List ℕ) → ((k : ℕ) → k < length xs → p (get_or xs k 0) ≡ true) → filter p xs ≡ xs
filter_all p [] h = refl
filter_all p (x ∷ xs) h = λ t. cond (h 0 (omega arith) t) (x ∷ filter_all p xs (λ k low. h (suc k) (omega (arith, low))) t) (filter_all p xs (λ k low. h (suc k) (omega (arith, low))) t)

differs : (a b : ℕ) → (a ≡ b → ⊥) → not (nat_eq a b) ≡ true
differs a b h = grind (arith, h)

pub without-absent : (id : ℕ) (xs : List ℕ) → ((k : ℕ) → k < length xs → id ≡ get_or xs k 0 → ⊥) → without id xs ≡ xs
without-absent id xs h = filter_all (λ i. not (nat_eq id i)) xs (λ k low. differs id (get_or xs k 0) (h k low))

tail_ascends : (x : ℕ) (xs : List ℕ) → AllPairs ◌<◌ (x ∷ xs) → AllPairs ◌<◌ xs
tail_ascends x xs asc = λ i j d less low. asc (suc i) (suc j) d (omega (arith, less)) (omega (arith, low))

pub removed : (id : ℕ) (xs : List ℕ) (p : ℕ) → p < length xs → get_or xs p 0 ≡ id → AllPairs ◌<◌ xs → take p xs ++ drop (suc p) xs ≡ without id xs
removed id [] p low at asc = absurd (omega (arith, low))
removed id (x ∷ xs) zero low at asc =
    let same : not (nat_eq id x) ≡ false = grind (arith, at) in
    sym (ap (λ b. cond b (x ∷ without id xs) (without id xs)) same
    ∙ without-absent id xs (λ k lower e. omega (arith, e, at, asc 0 (suc k) 0 (omega arith) (omega (arith, lower)))))
removed id (x ∷ xs) (suc p) low at asc =
    let less : x < id = subst (λ n. x < n) at (asc 0 (suc p) 0 (omega arith) low) in
    let other : not (nat_eq id x) ≡ true = differs id x (λ e. omega (arith, e, less)) in
    ap (λ ys. x ∷ ys) (removed id xs p (omega (arith, low)) at (tail_ascends x xs asc))
    ∙ sym (ap (λ b. cond b (x ∷ without id xs) (without id xs)) other)

pub removed_at : (id : ℕ) (xs : List ℕ) (p : ℕ) → p < length xs → get_or xs p 0 ≡ id → AllPairs ◌<◌ xs → take p xs ++ drop (p + 1) xs ≡ without id xs
removed_at id xs p low at asc =
    let next : p + 1 ≡ suc p = omega arith in
    ap (λ n. take p xs ++ drop n xs) next ∙ removed id xs p low at asc

pub rising : (xs : List ℕ) → AllPairs ◌<◌ xs → (i j : ℕ) → i ≤ j → j < length xs → get_or xs i 0 ≤ get_or xs j 0
rising xs asc i j le low = grind (arith, le, low, asc i j 0)

pub not_found : (id : ℕ) (xs : List ℕ) (p : ℕ) → ((k : ℕ) → k < p → get_or xs k 0 < id) → ((k : ℕ) → p ≤ k → k < length xs → id < get_or xs k 0) → xs ≡ without id xs
not_found id xs p below above = sym (without-absent id xs (λ k low e. grind (arith, e, low, below k, above k)))

pub asc_push : (xs : List ℕ) (id : ℕ) → AllPairs ◌<◌ xs → All (λ i. i < id) xs → AllPairs ◌<◌ (xs ++ id ∷ [])
asc_push [] id asc below = λ i j d less low. absurd (omega (arith, less, low))
asc_push (x ∷ xs) id asc below = AllPairs-cons ◌<◌ x (xs ++ id ∷ [])
    (All-push (λ y. x < y) xs id (λ k d low. asc 0 (suc k) d (omega arith) (omega (arith, low))) (below 0 0 (omega arith)))
    (asc_push xs id (tail_ascends x xs asc) (All-tail (λ i. i < id) x xs below))
