-- Facts of lists that std lacks.
use Rattle.std.proofs.Common.{◌≡◌, ℕ, ◌<◌, Bool, true, false, cond, List, [], ◌∷◌, ◌++◌, length, get_or, map, refl, ap, sym, ◌∙◌}
use Rattle.std.specs.Prelude.{All, ◌&&◌, ◌||◌, filter}
use Rattle.std.specs.List.{flat_map, list_any}
use Rattle.std.proofs.lemmas.List.Elements.{All-append, All-head, All-nil, All-tail}
use Rattle.std.proofs.lemmas.List.Folds.{list_any-append}
use Rattle.std.proofs.lemmas.List.FromFn.{fill_by_all}
use Rattle.tb_value.specs.Promise.Pairs.{row_numbers}
use Rattle.tb_value.proofs.RowNumbers.{rows_below}

-- what holds of each number below n holds of all n rows
pub each_row : (P : ℕ → Type 0) (n : ℕ) → ((i : ℕ) → i < n → P i) → All P (row_numbers n)
each_row P n holds = λ k d low. holds (get_or (row_numbers n) k d) (rows_below n k d low)

-- the elements of a list, by their places
pub by_places : (xs : List ℕ) → map (λ a. get_or xs a 0) (row_numbers (length xs)) ≡ xs
by_places xs = sym (fill_by_all (λ a. get_or xs a 0) xs (length xs) 0 refl (λ k low. refl))

-- a test behind another, or both at once in either order
pub tests_turned : (a b c : Bool) → (b ≡ true → a ≡ c) → (a && b) ≡ (b && c)
tests_turned a true c h = with_true a ∙ h refl
  where
    with_true : (a : Bool) → (a && true) ≡ a
    with_true true = refl
    with_true false = refl
tests_turned true false c h = refl
tests_turned false false c h = refl

-- what passes one test and then another
pub filter-both : {X : Type 0} (p q : X → Bool) (xs : List X) → filter (λ x. p x && q x) xs ≡ filter q (filter p xs)
filter-both p q [] = refl
filter-both {X} p q (x ∷ xs) = at (p x) (filter-both p q xs)
  where
    at : (b : Bool) → filter (λ y. p y && q y) xs ≡ filter q (filter p xs) → cond (b && q x) (x ∷ filter (λ y. p y && q y) xs) (filter (λ y. p y && q y) xs) ≡ filter q (cond b (x ∷ filter p xs) (filter p xs))
    at true e = ap (λ (l : List X). cond (q x) (x ∷ l) l) e
    at false e = e

-- LISTS OF LISTS

module _ {X Y : Type 0} where
  -- what is made of the elements that pass
  pub flat_map-filter : (f : X → List Y) (p : X → Bool) (xs : List X) → flat_map f (filter p xs) ≡ flat_map (λ x. cond (p x) (f x) []) xs
  flat_map-filter f p [] = refl
  flat_map-filter f p (x ∷ xs) = at (p x) (flat_map-filter f p xs)
    where
      at : (b : Bool) → flat_map f (filter p xs) ≡ flat_map (λ y. cond (p y) (f y) []) xs
          → flat_map f (cond b (x ∷ filter p xs) (filter p xs)) ≡ cond b (f x) [] ++ flat_map (λ y. cond (p y) (f y) []) xs
      at true e = ap (λ (l : List Y). f x ++ l) e
      at false e = e

  -- what holds of all that is made of each element
  pub All-flat_map_each : (P : Y → Type 0) (f : X → List Y) (xs : List X) → All (λ x. All P (f x)) xs → All P (flat_map f xs)
  All-flat_map_each P f [] h = All-nil P
  All-flat_map_each P f (x ∷ xs) h =
      All-append P (f x) (flat_map f xs) (All-head (λ y. All P (f y)) x xs h) (All-flat_map_each P f xs (All-tail (λ y. All P (f y)) x xs h))

-- SOME ELEMENT PASSES

-- whether there is an element
abbrev pub has_any : {X : Type 0} → List X → Bool
has_any [] = false
has_any (x ∷ xs) = true

-- some element passes where a filter keeps one
pub any-kept : {X : Type 0} (p : X → Bool) (xs : List X) → list_any p xs ≡ has_any (filter p xs)
any-kept p [] = refl
any-kept {X} p (x ∷ xs) = at (p x) (any-kept p xs)
  where
    at : (b : Bool) → list_any p xs ≡ has_any (filter p xs) → (b || list_any p xs) ≡ has_any (cond b (x ∷ filter p xs) (filter p xs))
    at true e = refl
    at false e = e

pub any-map : {X Y : Type 0} (p : Y → Bool) (f : X → Y) (xs : List X) → list_any p (map f xs) ≡ list_any (λ x. p (f x)) xs
any-map p f [] = refl
any-map p f (x ∷ xs) = ap (λ b. p (f x) || b) (any-map p f xs)

pub any-flat_map : {X Y : Type 0} (p : Y → Bool) (f : X → List Y) (xs : List X) → list_any p (flat_map f xs) ≡ list_any (λ x. list_any p (f x)) xs
any-flat_map p f [] = refl
any-flat_map p f (x ∷ xs) = list_any-append p (f x) (flat_map f xs) ∙ ap (λ b. list_any p (f x) || b) (any-flat_map p f xs)

-- tests that agree at each element
pub any-alike : {X : Type 0} (p q : X → Bool) (xs : List X) → All (λ x. p x ≡ q x) xs → list_any p xs ≡ list_any q xs
any-alike p q [] h = refl
any-alike p q (x ∷ xs) h = λ t. All-head (λ y. p y ≡ q y) x xs h t || any-alike p q xs (All-tail (λ y. p y ≡ q y) x xs h) t

-- functions that agree at each element
pub map-alike : {X Y : Type 0} (f g : X → Y) (xs : List X) → All (λ x. f x ≡ g x) xs → map f xs ≡ map g xs
map-alike f g [] h = refl
map-alike f g (x ∷ xs) h = λ t. All-head (λ y. f y ≡ g y) x xs h t ∷ map-alike f g xs (All-tail (λ y. f y ≡ g y) x xs h) t
