-- The ids that are left, after ids were taken out or put down as gone.
use Rattle.std.proofs.Common.{◌≡◌, ℕ, ◌<◌, Bool, true, false, cond, not, ◌||◌, ◌&&◌, if◌then◌else◌, nat_eq, List, [], ◌∷◌, ◌++◌, length, refl, ap, arith, sym, ◌∙◌, subst}
use Rattle.std.specs.Prelude.{filter, All, AllPairs}
use Rattle.std.specs.List.{list_any}
use Rattle.std.specs.List.Sorted.{IsPermutation}
use Rattle.std.proofs.lemmas.List.{append-nil}
use Rattle.std.proofs.lemmas.List.Kept.{AllPairs-filter}
use Rattle.std.proofs.lemmas.List.Elements.{All-filter, All-push, filter-append}
use Rattle.std.proofs.lemmas.List.Folds.{list_any-append, list_any_none}
use Rattle.std.proofs.lemmas.List.Sorted.{list_any-IsPermutation}
use Rattle.tb_delta.specs.Groups.{without, without_all}
use Rattle.tb_delta.proofs.Gone.{none_gone, one_gone}

pub none_pass : (P : ℕ → Type 0) → All P []
none_pass P k d low = absurd (omega (arith, low))

-- in another order
pub same_gone : (gone others ids : List ℕ) → IsPermutation gone others → without_all others ids ≡ without_all gone ids
same_gone gone others ids p = λ t. filter (λ i. not (sym (list_any-IsPermutation (nat_eq i) gone others p) t)) ids

-- one test after the other
swapped : {X : Type 0} (p q : X → Bool) (xs : List X) → filter p (filter q xs) ≡ filter q (filter p xs)
swapped p q [] = refl
swapped {X} p q (x ∷ xs) = at (p x) (q x) refl refl (swapped p q xs)
  where
    at : (a b : Bool) → p x ≡ a → q x ≡ b → filter p (filter q xs) ≡ filter q (filter p xs) → filter p (cond b (x ∷ filter q xs) (filter q xs)) ≡ filter q (cond a (x ∷ filter p xs) (filter p xs))
    at true true u v e = ap (λ (c : Bool). cond c (x ∷ filter p (filter q xs)) (filter p (filter q xs))) u ∙ ap (λ (l : List X). x ∷ l) e ∙ sym (ap (λ (c : Bool). cond c (x ∷ filter q (filter p xs)) (filter q (filter p xs))) v)
    at true false u v e = e ∙ sym (ap (λ (c : Bool). cond c (x ∷ filter q (filter p xs)) (filter q (filter p xs))) v)
    at false true u v e = ap (λ (c : Bool). cond c (x ∷ filter p (filter q xs)) (filter p (filter q xs))) u ∙ e
    at false false u v e = e

both_tests : (p q r : ℕ → Bool) (xs : List ℕ) → ((i : ℕ) → r i ≡ (p i && q i)) → filter r xs ≡ filter p (filter q xs)
both_tests p q r [] h = refl
both_tests p q r (x ∷ xs) h = at (p x) (q x) refl refl (both_tests p q r xs h)
  where
    at : (a b : Bool) → p x ≡ a → q x ≡ b → filter r xs ≡ filter p (filter q xs) → cond (r x) (x ∷ filter r xs) (filter r xs) ≡ filter p (cond (q x) (x ∷ filter q xs) (filter q xs))
    at a b u v e = (λ t. cond ((h x ∙ (λ s. u s && v s)) t) (x ∷ e t) (e t)) ∙ put a b u ∙ sym (ap (λ (c : Bool). filter p (cond c (x ∷ filter q xs) (filter q xs))) v)
      where
        put : (a b : Bool) → p x ≡ a → cond (a && b) (x ∷ filter p (filter q xs)) (filter p (filter q xs)) ≡ filter p (cond b (x ∷ filter q xs) (filter q xs))
        put true true w = sym (ap (λ (c : Bool). cond c (x ∷ filter p (filter q xs)) (filter p (filter q xs))) w)
        put true false w = refl
        put false true w = sym (ap (λ (c : Bool). cond c (x ∷ filter p (filter q xs)) (filter p (filter q xs))) w)
        put false false w = refl

-- one more is gone
none_of : (a b : Bool) → not (a || (b || false)) ≡ (not b && not a)
none_of true true = refl
none_of true false = refl
none_of false true = refl
none_of false false = refl

turned : (a b : ℕ) → nat_eq a b ≡ nat_eq b a
turned a b = grind (arith)

pub one_more_gone : (id : ℕ) (gone ids : List ℕ) → without_all (gone ++ id ∷ []) ids ≡ without id (without_all gone ids)
one_more_gone id gone ids = both_tests (λ i. not (nat_eq id i)) (λ i. not (list_any (nat_eq i) gone)) (λ i. not (list_any (nat_eq i) (gone ++ id ∷ []))) ids
    (λ i. ap not (list_any-append (nat_eq i) gone (id ∷ [])) ∙ none_of (list_any (nat_eq i) gone) (nat_eq i id) ∙ ap (λ b. not b && not (list_any (nat_eq i) gone)) (turned i id))

-- an id that isn't gone is put last
pub put_behind : (id : ℕ) (gone ids : List ℕ) → All (λ i. i < id) gone → without_all gone (ids ++ id ∷ []) ≡ without_all gone ids ++ id ∷ []
put_behind id gone ids below =
    let there : list_any (nat_eq id) gone ≡ false = list_any_none (nat_eq id) gone (λ k d low. grind (arith, below k d low)) in
    filter-append (λ i. not (list_any (nat_eq i) gone)) ids (id ∷ [])
    ∙ ap (λ b. without_all gone ids ++ cond (not b) (id ∷ []) []) there

-- UNDER A TEST

pub put_at : (b : Bool) (id : ℕ) (gone xs ys : List ℕ) → (b ≡ true → All (λ i. i < id) gone) → ys ≡ (if b then xs ++ id ∷ [] else xs)
    → without_all gone ys ≡ (if b then without_all gone xs ++ id ∷ [] else without_all gone xs)
put_at true id gone xs ys below is = ap (without_all gone) is ∙ put_behind id gone xs (below refl)
put_at false id gone xs ys below is = ap (without_all gone) is

-- those that are gone are taken out
pub settled_at : (b : Bool) (gone after taken xs ys : List ℕ) → (b ≡ true → gone ≡ taken) → ys ≡ (if b then without_all taken xs else xs) → after ≡ (if b then [] else gone)
    → without_all after ys ≡ without_all gone xs
settled_at true gone after taken xs ys all is none = (λ t. without_all (none t) (is t)) ∙ none_gone (without_all taken xs) ∙ ap (λ l. without_all l xs) (sym (all refl))
settled_at false gone after taken xs ys all is none = λ t. without_all (none t) (is t)

-- nothing is gone
pub untaken : (b : Bool) (taken xs : List ℕ) → taken ≡ [] → xs ≡ (if b then without_all taken xs else xs)
untaken true taken xs none = sym (none_gone xs) ∙ ap (λ l. without_all l xs) (sym none)
untaken false taken xs none = refl

-- one is put down as gone
pub put_down_at : (b : Bool) (id : ℕ) (gone after xs ys : List ℕ) → ys ≡ xs → after ≡ (if b then gone ++ id ∷ [] else gone)
    → without_all after ys ≡ (if b then without id (without_all gone xs) else without_all gone xs)
put_down_at true id gone after xs ys same more = (λ t. without_all (more t) (same t)) ∙ one_more_gone id gone xs
put_down_at false id gone after xs ys same more = λ t. without_all (more t) (same t)

-- one is taken out
pub taken_at : (b : Bool) (id : ℕ) (gone after xs ys : List ℕ) → after ≡ gone → ys ≡ (if b then without_all (id ∷ []) xs else xs)
    → without_all after ys ≡ (if b then without id (without_all gone xs) else without_all gone xs)
taken_at true id gone after xs ys same is =
    (λ t. without_all (same t) ((is ∙ sym (one_gone id xs)) t))
    ∙ swapped (λ i. not (list_any (nat_eq i) gone)) (λ i. not (nat_eq id i)) xs
taken_at false id gone after xs ys same is = λ t. without_all (same t) (is t)

-- WHAT IS KEPT

pub fewer_ascend : (b : Bool) (gone xs ys : List ℕ) → ys ≡ (if b then without_all gone xs else xs) → AllPairs ◌<◌ xs → AllPairs ◌<◌ ys
fewer_ascend true gone xs ys is asc = subst (λ (l : List ℕ). AllPairs ◌<◌ l) (sym is) (AllPairs-filter ◌<◌ (λ i. not (list_any (nat_eq i) gone)) xs asc)
fewer_ascend false gone xs ys is asc = subst (λ (l : List ℕ). AllPairs ◌<◌ l) (sym is) asc

pub fewer_below : (b : Bool) (n : ℕ) (gone xs ys : List ℕ) → ys ≡ (if b then without_all gone xs else xs) → All (λ i. i < n) xs → All (λ i. i < n) ys
fewer_below true n gone xs ys is all = subst (λ (l : List ℕ). All (λ i. i < n) l) (sym is) (All-filter (λ i. not (list_any (nat_eq i) gone)) (λ i. i < n) xs all)
fewer_below false n gone xs ys is all = subst (λ (l : List ℕ). All (λ i. i < n) l) (sym is) all

pub emptied_below : (b : Bool) (n : ℕ) (xs ys : List ℕ) → ys ≡ (if b then [] else xs) → All (λ i. i < n) xs → All (λ i. i < n) ys
emptied_below true n xs ys is all = subst (λ (l : List ℕ). All (λ i. i < n) l) (sym is) (none_pass (λ i. i < n))
emptied_below false n xs ys is all = subst (λ (l : List ℕ). All (λ i. i < n) l) (sym is) all

pub more_below : (b : Bool) (id n : ℕ) (xs ys : List ℕ) → (b ≡ true → id < n) → ys ≡ (if b then xs ++ id ∷ [] else xs) → All (λ i. i < n) xs → All (λ i. i < n) ys
more_below true id n xs ys low is all = subst (λ (l : List ℕ). All (λ i. i < n) l) (sym is) (All-push (λ i. i < n) xs id all (low refl))
more_below false id n xs ys low is all = subst (λ (l : List ℕ). All (λ i. i < n) l) (sym is) all
