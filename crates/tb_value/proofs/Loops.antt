-- Two loops exchanged: the pairs that they list are the same, up to order.
use Rattle.std.proofs.Common.{◌≡◌, ℕ, Bool, true, false, cond, List, [], ◌∷◌, ◌++◌, map, refl, ap, sym, ◌∙◌, subst, append_assoc}
use Rattle.std.specs.Prelude.{filter, IsPermutation}
use Rattle.std.specs.List.{flat_map}
use Rattle.std.proofs.lemmas.List.{map-append}
use Rattle.std.proofs.lemmas.List.Concat.{flat_map-append}
use Rattle.std.proofs.lemmas.List.Sorted.{IsPermutation-refl, IsPermutation-trans, IsPermutation-append_comm, IsPermutation-append_left, IsPermutation-append_right}
use Rattle.tb_value.specs.declared.index.JoinPair.{JoinPair}
use Rattle.tb_value.specs.Promise.Pairs.{row_numbers, both, matched_pairs}
use Rattle.tb_value.specs.Pairs.{turn}

pub permuted : {X : Type 0} (xs ys zs : List X) → ys ≡ zs → IsPermutation xs ys → IsPermutation xs zs
permuted xs ys zs e h = subst (λ (l : List _). IsPermutation xs l) e h

-- what two functions give, together or one after the other
pub zipped : {X P : Type 0} (f g : X → List P) (xs : List X) → IsPermutation (flat_map f xs ++ flat_map g xs) (flat_map (λ x. f x ++ g x) xs)
zipped f g [] = IsPermutation-refl []
zipped {X} {P} f g (x ∷ xs) =
    let rest = zipped f g xs in
    let fs : List P = flat_map f xs in
    let gs : List P = flat_map g xs in
    let regroup : (f x ++ fs) ++ (g x ++ gs) ≡ f x ++ ((fs ++ g x) ++ gs) = simp append_assoc in
    let swap : IsPermutation (f x ++ ((fs ++ g x) ++ gs)) (f x ++ ((g x ++ fs) ++ gs)) = IsPermutation-append_right (f x) ((fs ++ g x) ++ gs) ((g x ++ fs) ++ gs) (IsPermutation-append_left gs (fs ++ g x) (g x ++ fs) (IsPermutation-append_comm fs (g x))) in
    let back : f x ++ ((g x ++ fs) ++ gs) ≡ (f x ++ g x) ++ (fs ++ gs) = simp append_assoc in
    let last : IsPermutation ((f x ++ g x) ++ (fs ++ gs)) ((f x ++ g x) ++ flat_map (λ y. f y ++ g y) xs) = IsPermutation-append_right (f x ++ g x) (fs ++ gs) (flat_map (λ y. f y ++ g y) xs) rest in
    let first : IsPermutation (f x ++ ((fs ++ g x) ++ gs)) ((f x ++ g x) ++ (fs ++ gs)) = permuted (f x ++ ((fs ++ g x) ++ gs)) (f x ++ ((g x ++ fs) ++ gs)) ((f x ++ g x) ++ (fs ++ gs)) back swap in
    subst (λ (l : List P). IsPermutation l ((f x ++ g x) ++ flat_map (λ y. f y ++ g y) xs)) (sym regroup) (IsPermutation-trans (f x ++ ((fs ++ g x) ++ gs)) ((f x ++ g x) ++ (fs ++ gs)) ((f x ++ g x) ++ flat_map (λ y. f y ++ g y) xs) first last)

pub flat_map_none : {X P : Type 0} (xs : List X) → flat_map (λ (x : X). let none : List P = [] in none) xs ≡ []
flat_map_none [] = refl
flat_map_none (x ∷ xs) = flat_map_none xs

-- a list of lists, each of which a function gives one after the other
pub flat_map-flat_map : {X Y P : Type 0} (f : Y → List P) (g : X → List Y) (xs : List X) → flat_map (λ x. flat_map f (g x)) xs ≡ flat_map f (flat_map g xs)
flat_map-flat_map f g [] = refl
flat_map-flat_map f g (x ∷ xs) = ap (λ l. flat_map f (g x) ++ l) (flat_map-flat_map f g xs) ∙ sym (flat_map-append f (g x) (flat_map g xs))

pub exchange : {X Y P : Type 0} (f : X → Y → List P) (xs : List X) (ys : List Y) → IsPermutation (flat_map (λ x. flat_map (f x) ys) xs) (flat_map (λ y. flat_map (λ x. f x y) xs) ys)
exchange {X} {Y} {P} f [] ys = permuted [] [] (flat_map (λ (y : Y). flat_map (λ x. f x y) []) ys) (sym (flat_map_none ys)) (IsPermutation-refl [])
exchange {X} {Y} {P} f (x ∷ xs) ys =
    IsPermutation-trans (flat_map (f x) ys ++ flat_map (λ z. flat_map (f z) ys) xs) (flat_map (f x) ys ++ flat_map (λ y. flat_map (λ z. f z y) xs) ys) (flat_map (λ y. f x y ++ flat_map (λ z. f z y) xs) ys)
    (IsPermutation-append_right (flat_map (f x) ys) (flat_map (λ z. flat_map (f z) ys) xs) (flat_map (λ y. flat_map (λ z. f z y) xs) ys) (exchange f xs ys))
    (zipped (f x) (λ y. flat_map (λ z. f z y) xs) ys)

-- MATCHED PAIRS

one_if : Bool → JoinPair → List JoinPair
one_if b p = cond b (p ∷ []) []

put_first : (b : Bool) (p : JoinPair) (ps : List JoinPair) (f : ℕ → JoinPair) (i : ℕ) (is : List ℕ) → f i ≡ p → map f is ≡ ps → map f (cond b (i ∷ is) is) ≡ one_if b p ++ ps
unfolding one_if
put_first true p ps f i is e h = λ t. e t ∷ h t
put_first false p ps f i is e h = h

by_test : (f : ℕ → JoinPair) (p : ℕ → Bool) (is : List ℕ) → map f (filter p is) ≡ flat_map (λ i. one_if (p i) (f i)) is
by_test f p [] = refl
by_test f p (i ∷ is) = put_first (p i) (f i) (flat_map (λ k. one_if (p k) (f k)) is) f i (filter p is) refl (by_test f p is)

pub flat_map_agree : {X P : Type 0} (f g : X → List P) → ((x : X) → f x ≡ g x) → (xs : List X) → flat_map f xs ≡ flat_map g xs
flat_map_agree {X} {P} f g e xs = ap (λ (h : X → List P). flat_map h xs) (λ t x. e x t)

pub map-flat_map : {X P Q : Type 0} (h : P → Q) (f : X → List P) (xs : List X) → map h (flat_map f xs) ≡ flat_map (λ x. map h (f x)) xs
map-flat_map h f [] = refl
map-flat_map h f (x ∷ xs) = map-append h (f x) (flat_map f xs) ∙ ap (λ l. map h (f x) ++ l) (map-flat_map h f xs)

pub map-map : {X Y Z : Type 0} (g : Y → Z) (f : X → Y) (xs : List X) → map g (map f xs) ≡ map (λ x. g (f x)) xs
map-map g f [] = refl
map-map g f (x ∷ xs) = λ t. g (f x) ∷ map-map g f xs t

loops : (l r : ℕ) (m : ℕ → ℕ → Bool) → matched_pairs l r m ≡ flat_map (λ i. flat_map (λ j. one_if (m i j) (both i j)) (row_numbers r)) (row_numbers l)
loops l r m = flat_map_agree (λ i. map (both i) (filter (m i) (row_numbers r))) (λ i. flat_map (λ j. one_if (m i j) (both i j)) (row_numbers r)) (λ i. by_test (both i) (m i) (row_numbers r)) (row_numbers l)

turned_loops : (l r : ℕ) (m : ℕ → ℕ → Bool) → map turn (matched_pairs r l (λ j i. m i j)) ≡ flat_map (λ j. flat_map (λ i. one_if (m i j) (both i j)) (row_numbers l)) (row_numbers r)
turned_loops l r m =
    map-flat_map turn (λ j. map (both j) (filter (λ i. m i j) (row_numbers l))) (row_numbers r)
    ∙ flat_map_agree (λ j. map turn (map (both j) (filter (λ i. m i j) (row_numbers l)))) (λ j. flat_map (λ i. one_if (m i j) (both i j)) (row_numbers l)) (λ j. map-map turn (both j) (filter (λ i. m i j) (row_numbers l)) ∙ by_test (λ i. both i j) (λ i. m i j) (row_numbers l)) (row_numbers r)

pub turned_matches : (l r : ℕ) (m : ℕ → ℕ → Bool) → IsPermutation (map turn (matched_pairs r l (λ j i. m i j))) (matched_pairs l r m)
turned_matches l r m =
    let a = exchange (λ j i. one_if (m i j) (both i j)) (row_numbers r) (row_numbers l) in
    let b : IsPermutation (map turn (matched_pairs r l (λ j i. m i j))) (flat_map (λ i. flat_map (λ j. one_if (m i j) (both i j)) (row_numbers r)) (row_numbers l)) = subst (λ (x : List JoinPair). IsPermutation x (flat_map (λ i. flat_map (λ j. one_if (m i j) (both i j)) (row_numbers r)) (row_numbers l))) (sym (turned_loops l r m)) a in
    permuted (map turn (matched_pairs r l (λ j i. m i j))) (flat_map (λ i. flat_map (λ j. one_if (m i j) (both i j)) (row_numbers r)) (row_numbers l)) (matched_pairs l r m) (sym (loops l r m)) b
