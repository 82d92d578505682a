-- Walks over lists of values, a step at a time.
use Rattle.std.proofs.Common.{◌≡◌, ℕ, ◌+◌, ◌<◌, ◌≤◌, List, [], ◌∷◌, ◌++◌, length, get_or, drop, Option, Some, None, option_map, option_and_then, refl, sym, ap, ◌∙◌, append_assoc}
use Rattle.std.proofs.lemmas.List.{at_drop_more, at_drop_all}
use Rattle.tb_json.specs.Promise.Lists.{each}

-- `each f` of xs, where the first ones gave `done`, and `rest` is what is left
abbrev pub EachSoFar : {A B : Type 0} → (A → Option B) → List A → List B → List A → Type 0
EachSoFar f xs done rest = each f xs ≡ option_map (λ ys. done ++ ys) (each f rest)

moved : {B : Type 0} (done : List B) (y : B) (o : Option (List B)) → option_map (λ ys. done ++ ys) (option_map (λ ys. y ∷ ys) o) ≡ option_map (λ ys. (done ++ y ∷ []) ++ ys) o
moved done y None = refl
moved done y (Some ys) = ap Some (sym (append_assoc done (y ∷ []) ys))

pub EachSoFar-more : {A B : Type 0} (f : A → Option B) (xs : List A) (done : List B) (i : ℕ) (d : A) (y : B) → i < length xs → f (get_or xs i d) ≡ Some y → EachSoFar f xs done (drop i xs) → EachSoFar f xs (done ++ y ∷ []) (drop (i + 1) xs)
EachSoFar-more f xs done i d y within e so_far =
    so_far ∙ ap (option_map (λ ys. done ++ ys)) (at_drop_more (each f) xs i d within ∙ ap (option_and_then (λ z. option_map (λ zs. z ∷ zs) (each f (drop (i + 1) xs)))) e) ∙ moved done y (each f (drop (i + 1) xs))

pub EachSoFar-fails : {A B : Type 0} (f : A → Option B) (xs : List A) (done : List B) (i : ℕ) (d : A) → i < length xs → f (get_or xs i d) ≡ None → EachSoFar f xs done (drop i xs) → None ≡ each f xs
EachSoFar-fails f xs done i d within e so_far =
    sym (so_far ∙ ap (option_map (λ ys. done ++ ys)) (at_drop_more (each f) xs i d within ∙ ap (option_and_then (λ z. option_map (λ zs. z ∷ zs) (each f (drop (i + 1) xs)))) e))

append_none : {B : Type 0} (xs : List B) → xs ++ [] ≡ xs
append_none [] = refl
append_none (x ∷ xs) = ap (λ ys. x ∷ ys) (append_none xs)

pub EachSoFar-all : {A B : Type 0} (f : A → Option B) (xs : List A) (done : List B) (i : ℕ) → length xs ≤ i → EachSoFar f xs done (drop i xs) → Some done ≡ each f xs
EachSoFar-all f xs done i past so_far =
    sym (so_far ∙ ap (option_map (λ ys. done ++ ys)) (at_drop_all (each f) xs i past) ∙ ap Some (append_none done))

-- ---- the same, where the items are taken out one after another

pub EachSoFar-start : {A B : Type 0} (f : A → Option B) (xs : List A) → EachSoFar f xs [] xs
EachSoFar-start f xs = unmoved (each f xs) where
  unmoved : {B : Type 0} (o : Option (List B)) → o ≡ option_map (λ ys. ys) o
  unmoved None = refl
  unmoved (Some ys) = refl

pub EachSoFar-next : {A B : Type 0} (f : A → Option B) (xs : List A) (done : List B) (d : A) (rest : List A) (y : B) → f d ≡ Some y → EachSoFar f xs done (d ∷ rest) → EachSoFar f xs (done ++ y ∷ []) rest
EachSoFar-next f xs done d rest y e so_far = so_far ∙ ap (λ o. option_map (λ ys. done ++ ys) (option_and_then (λ z. option_map (λ zs. z ∷ zs) (each f rest)) o)) e ∙ moved done y (each f rest)

pub EachSoFar-stops : {A B : Type 0} (f : A → Option B) (xs : List A) (done : List B) (d : A) (rest : List A) → f d ≡ None → EachSoFar f xs done (d ∷ rest) → None ≡ each f xs
EachSoFar-stops f xs done d rest e so_far = sym (so_far ∙ ap (λ o. option_map (λ ys. done ++ ys) (option_and_then (λ z. option_map (λ zs. z ∷ zs) (each f rest)) o)) e)

pub EachSoFar-end : {A B : Type 0} (f : A → Option B) (xs : List A) (done : List B) → EachSoFar f xs done [] → Some done ≡ each f xs
EachSoFar-end f xs done so_far = sym (so_far ∙ ap Some (append_none done))
