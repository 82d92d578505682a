-- Counts over the row numbers of a listing.
use Rattle.std.proofs.Common.{◌≡◌, ℕ, zero, suc, ◌+◌, ◌-◌, ◌<◌, ◌≤◌, Bool, true, false, cond, eqb, List, [], ◌∷◌, length, get_or, map, refl, ap, arith, sym, ◌∙◌, zero-add, ⊎_elim}
use Rattle.std.specs.Prelude.{count_by, sum_by, filter}
use Rattle.std.specs.List.{flat_map, list_any, range_with_len}
use Rattle.std.proofs.lemmas.List.Sums.{sum_by-cons, sum_by-append, get_or-le-sum_by}
use Rattle.std.proofs.lemmas.List.FromFn.{length-range_with_len, get_or-range_with_len}
use Rattle.std.proofs.lemmas.Bool.{ne_eqb, eq-eqb, cond-true, cond-false, cases_eq}

pub sum_by-map : {X Y : Type 0} (f : Y → ℕ) (g : X → Y) (xs : List X) → sum_by f (map g xs) ≡ sum_by (λ x. f (g x)) xs
sum_by-map f g [] = refl
sum_by-map f g (x ∷ xs) = sum_by-cons f (g x) (map g xs) ∙ ap (λ n. f (g x) + n) (sum_by-map f g xs) ∙ sym (sum_by-cons (λ y. f (g y)) x xs)

sum_by-cond : {X : Type 0} (f : X → ℕ) (b : Bool) (x : X) (ys : List X) → sum_by f (cond b (x ∷ ys) ys) ≡ cond b (f x) 0 + sum_by f ys
sum_by-cond f true x ys = sum_by-cons f x ys
sum_by-cond f false x ys = sym (zero-add (sum_by f ys))

pub sum_by-filter : {X : Type 0} (f : X → ℕ) (p : X → Bool) (xs : List X) → sum_by f (filter p xs) ≡ sum_by (λ x. cond (p x) (f x) 0) xs
sum_by-filter f p [] = refl
sum_by-filter f p (x ∷ xs) = sum_by-cond f (p x) x (filter p xs) ∙ ap (λ n. cond (p x) (f x) 0 + n) (sum_by-filter f p xs) ∙ sym (sum_by-cons (λ y. cond (p y) (f y) 0) x xs)

pub sum_by-flat_map : {X A : Type 0} (f : A → ℕ) (g : X → List A) (xs : List X) → sum_by f (flat_map g xs) ≡ sum_by (λ x. sum_by f (g x)) xs
sum_by-flat_map f g [] = refl
sum_by-flat_map f g (x ∷ xs) = sum_by-append f (g x) (flat_map g xs) ∙ ap (λ n. sum_by f (g x) + n) (sum_by-flat_map f g xs) ∙ sym (sum_by-cons (λ y. sum_by f (g y)) x xs)

pub sum_by-agree : {X : Type 0} (f g : X → ℕ) → ((x : X) → f x ≡ g x) → (xs : List X) → sum_by f xs ≡ sum_by g xs
sum_by-agree {X} f g e xs = ap (λ (h : X → ℕ). sum_by h xs) (λ t x. e x t)

pub sum_by-plus : {X : Type 0} (f g : X → ℕ) (xs : List X) → sum_by f xs + sum_by g xs ≡ sum_by (λ x. f x + g x) xs
sum_by-plus f g [] = refl
sum_by-plus f g (x ∷ xs) = let a = sum_by-cons f x xs in let b = sum_by-cons g x xs in let c = sum_by-cons (λ y. f y + g y) x xs in let h = sum_by-plus f g xs in omega (arith, a, b, c, h)

-- the sum at one number alone
sum_none : (g : ℕ → ℕ) (i a n : ℕ) → i < a → sum_by (λ k. cond (eqb i k) (g k) 0) (range_with_len a n) ≡ 0
sum_none g i a zero h = refl
sum_none g i a (suc n) h =
    let here : ◌≡◌ {A = ℕ} (cond (eqb i a) (g a) 0) 0 = cond-false (eqb i a) (g a) 0 (ne_eqb i a (λ e. omega (arith, e))) in
    let c = sum_by-cons (λ k. cond (eqb i k) (g k) 0) a (range_with_len (a + 1) n) in
    let rest = sum_none g i (a + 1) n (omega arith) in
    c ∙ omega (arith, here, rest)

pub sum_one : (g : ℕ → ℕ) (i a n : ℕ) → a ≤ i → i < a + n → sum_by (λ k. cond (eqb i k) (g k) 0) (range_with_len a n) ≡ g i
sum_one g i a zero low high = absurd (omega arith)
sum_one g i a (suc n) low high =
    let c = sum_by-cons (λ k. cond (eqb i k) (g k) 0) a (range_with_len (a + 1) n) in
    ⊎_elim
    (λ (e : i ≡ a).
    let here : ◌≡◌ {A = ℕ} (cond (eqb i a) (g a) 0) (g a) = cond-true (eqb i a) (g a) 0 (eq-eqb i a e) in
    let rest = sum_none g i (a + 1) n (omega arith) in
    let same : g i ≡ g a = ap g e in
    c ∙ omega (arith, here, rest, same))
    (λ (ne : i ≡ a → ⊥).
    let here : ◌≡◌ {A = ℕ} (cond (eqb i a) (g a) 0) 0 = cond-false (eqb i a) (g a) 0 (ne_eqb i a ne) in
    let rest = sum_one g i (a + 1) n (omega (arith, ne)) (omega arith) in
    c ∙ omega (arith, here, rest))
    (cases_eq i a)

-- some element passes: one is counted
counted_by : {X : Type 0} (p : X → Bool) (x : X) (xs : List X) → (list_any p xs ≡ true → 1 ≤ count_by p xs) → (b : Bool) → p x ≡ b → list_any p (x ∷ xs) ≡ true → 1 ≤ count_by p (x ∷ xs)
counted_by p x xs rest true e h = let one : ◌≡◌ {A = ℕ} (cond (p x) 1 0) 1 = rw e refl in let c = sum_by-cons (λ y. cond (p y) 1 0) x xs in omega (arith, one, c)
counted_by p x xs rest false e h = let more = rest (rw e at h) in let c = sum_by-cons (λ y. cond (p y) 1 0) x xs in omega (arith, more, c)

pub counted_if_any : {X : Type 0} (p : X → Bool) (xs : List X) → list_any p xs ≡ true → 1 ≤ count_by p xs
counted_if_any p [] h = absurd (cc)
counted_if_any p (x ∷ xs) h = counted_by p x xs (counted_if_any p xs) (p x) refl h

pub sum_by_ones : {X : Type 0} (xs : List X) → sum_by (λ _. 1) xs ≡ length xs
sum_by_ones [] = refl
sum_by_ones (x ∷ xs) = let c = sum_by-cons (λ _. 1) x xs in let h = sum_by_ones xs in omega (arith, c, h)

pub sum_by_zeros : {X : Type 0} (xs : List X) → sum_by (λ _. 0) xs ≡ 0
sum_by_zeros [] = refl
sum_by_zeros (x ∷ xs) = let c = sum_by-cons (λ _. 0) x xs in let h = sum_by_zeros xs in omega (arith, c, h)

pub sum_by_test : {X : Type 0} (b : Bool) (xs : List X) → sum_by (λ _. cond b 1 0) xs ≡ cond b (length xs) 0
sum_by_test true xs = sum_by_ones xs
sum_by_test false xs = sum_by_zeros xs

pub swap_conds : (a b : Bool) (n : ℕ) → cond a (cond b n 0) 0 ≡ cond b (cond a n 0) 0
swap_conds true true n = refl
swap_conds true false n = refl
swap_conds false true n = refl
swap_conds false false n = refl

-- where each number is at least 1 and the sum of the first n is at most n, each is 1
pub each_one : (t : ℕ → ℕ) → ((k : ℕ) → 1 ≤ t k) → (n i : ℕ) → i < n → sum_by t (range_with_len 0 n) ≤ n → t i ≡ 1
each_one t h n i low most =
    let rows : List ℕ = range_with_len 0 n in
    let split : sum_by t rows ≡ sum_by (λ k. 1 + (t k - 1)) rows = sum_by-agree t (λ k. 1 + (t k - 1)) (λ k. omega (arith, h k)) rows in
    let parts = sum_by-plus (λ _. 1) (λ k. t k - 1) rows in
    let ones : sum_by (λ _. 1) rows ≡ length rows = sum_by_ones rows in
    let long : length rows ≡ n = length-range_with_len 0 n in
    let at : get_or rows i 0 ≡ 0 + i = get_or-range_with_len 0 n i 0 low in
    let one : t (get_or rows i 0) - 1 ≤ sum_by (λ k. t k - 1) rows = get_or-le-sum_by (λ k. t k - 1) rows i 0 (omega (arith, long)) in
    let here : t (get_or rows i 0) ≡ t i = ap t (at ∙ zero-add i) in
    omega (arith, split, parts, ones, long, one, here, h i)
