-- What holds of all values, from what holds of the next one and of the rest.
use Rattle.std.proofs.Common.{arith, [], ◌≡◌, ◌↔◌, ℕ, ◌<◌, ◌≤◌, ◌+◌, suc, List, ◌∷◌, ◌++◌, length, map, get_or, drop, sym, ap, add-one, drop-cons}
use Rattle.std.specs.List.{All}
use Rattle.std.proofs.lemmas.List.Elements.{All-head, All-tail, All-cons, All-append}
use Rattle.std.proofs.lemmas.List.{drop_all}
use Rattle.tb_value.specs.Promise.Datum.{Datum, null}
use Rattle.tb_chunk.specs.Promise.Col.{concatenation}
use Rattle.tb_chunk.proofs.Lists.{flat_drop}

pub all_next : {X : Type 0} (P : Datum → Type 0) (f : X → Datum) (xs : List X) (i : ℕ) (x : X) → i < length xs → x ≡ get_or xs i x → All P (map f (drop i xs)) ↔ (P (f x) × All P (map f (drop (i + 1) xs)))
all_next P f xs i x h e =
    let s : map f (drop i xs) ≡ f x ∷ map f (drop (i + 1) xs) = rw (add-one, drop-cons xs i x) (ap (λ y. f y ∷ map f (drop (suc i) xs)) (sym e)) in
    rw s (λ a. (All-head P (f x) _ a, All-tail P (f x) _ a), λ a. All-cons P (f x) _ a.0 a.1)

pub all_next_at : (P : Datum → Type 0) (xs : List Datum) (i : ℕ) (v : Datum) → i < length xs → v ≡ get_or xs i null → All P (drop i xs) ↔ (P v × All P (drop (i + 1) xs))
all_next_at P xs i v h e =
    let s : drop i xs ≡ v ∷ drop (i + 1) xs = rw (add-one, drop-cons xs i null) (ap (λ y. y ∷ drop (suc i) xs) (sym e)) in
    rw s (λ a. (All-head P v _ a, All-tail P v _ a), λ a. All-cons P v _ a.0 a.1)

pub all_end : (P : Datum → Type 0) (xs : List Datum) (i : ℕ) → length xs ≤ i → All P (drop i xs)
all_end P xs i h = rw (drop_all i xs h) (λ k d h. absurd (omega arith))

pub all_split : (P : Datum → Type 0) (xs ys : List Datum) → All P (xs ++ ys) → All P xs × All P ys
all_split P [] ys a = ((λ k d h. absurd (omega arith)), a)
all_split P (x ∷ xs) ys a =
    let r = all_split P xs ys (All-tail P x (xs ++ ys) a) in
    (All-cons P x xs (All-head P x (xs ++ ys) a) r.0, r.1)

pub all_next_list : {X : Type 0} (P : Datum → Type 0) (f : X → List Datum) (xs : List X) (i : ℕ) (x : X) → i < length xs → x ≡ get_or xs i x → All P (concatenation (map f (drop i xs))) ↔ (All P (f x) × All P (concatenation (map f (drop (i + 1) xs))))
all_next_list P f xs i x h e = rw (flat_drop f xs i x h e) (λ a. all_split P (f x) _ a, λ a. All-append P (f x) _ a.0 a.1)

pub all_none : {X : Type 0} (P : Datum → Type 0) (f : X → List Datum) (xs : List X) (i : ℕ) → length xs ≤ i → All P (concatenation (map f (drop i xs)))
all_none P f xs i h = rw (drop_all i xs h) (λ k d h. absurd (omega arith))

pub all_after : {X : Type 0} (P : Datum → Type 0) (f : X → Datum) (xs : List X) (i : ℕ) → length xs ≤ i → All P (map f (drop i xs))
all_after P f xs i h = rw (drop_all i xs h) (λ k d h. absurd (omega arith))
