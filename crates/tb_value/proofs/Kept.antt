-- What passes a test, and a loop that makes one item for each element that does.
use Rattle.std.proofs.Common.{◌≡◌, ℕ, ◌+◌, ◌<◌, Bool, true, false, cond, List, [], ◌∷◌, ◌++◌, length, get_or, map, take, refl, ap, sym, ◌∙◌, append_assoc}
use Rattle.std.specs.Prelude.{filter}
use Rattle.std.proofs.lemmas.List.{append-nil, map-append}
use Rattle.std.proofs.lemmas.List.Elements.{filter_more}

-- what passes a test passes it before or after it is seen otherwise
pub filter-map : {X Y : Type 0} (f : X → Y) (p : Y → Bool) (xs : List X) → filter p (map f xs) ≡ map f (filter (λ x. p (f x)) xs)
filter-map f p [] = refl
filter-map {X} {Y} f p (x ∷ xs) = at (p (f x)) (filter-map f p xs)
  where
    at : (b : Bool) → filter p (map f xs) ≡ map f (filter (λ y. p (f y)) xs) → cond b (f x ∷ filter p (map f xs)) (filter p (map f xs)) ≡ map f (cond b (x ∷ filter (λ y. p (f y)) xs) (filter (λ y. p (f y)) xs))
    at true e = ap (λ (l : List Y). f x ∷ l) e
    at false e = e

module _ {X Y : Type 0} (f : X → Y) (p : X → Bool) (xs : List X) (i : ℕ) (x : X) (low : i < length xs) (is : x ≡ get_or xs i x) where
  grown : (b : Bool) → p x ≡ b → map f (filter p (take (i + 1) xs)) ≡ map f (filter p (take i xs)) ++ cond b (f x ∷ []) []
  grown b e =
      ap (map f) (filter_more p xs i x low)
      ∙ ap (λ (y : X). map f (filter p (take i xs) ++ cond (p y) (y ∷ []) [])) (sym is)
      ∙ ap (λ (c : Bool). map f (filter p (take i xs) ++ cond c (x ∷ []) [])) e
      ∙ map-append f (filter p (take i xs)) (cond b (x ∷ []) [])
      ∙ ap (λ (l : List Y). map f (filter p (take i xs)) ++ l) (one b)
    where
      one : (c : Bool) → map f (cond c (x ∷ []) []) ≡ cond c (f x ∷ []) []
      one true = refl
      one false = refl

  pub made : (start out : List Y) (y : Y) → out ≡ start ++ map f (filter p (take i xs)) → p x ≡ true → y ≡ f x → out ++ y ∷ [] ≡ start ++ map f (filter p (take (i + 1) xs))
  made start out y h k e =
      ap (λ (l : List Y). l ++ y ∷ []) h
      ∙ append_assoc start (map f (filter p (take i xs))) (y ∷ [])
      ∙ ap (λ (l : List Y). start ++ l) (ap (λ (z : Y). map f (filter p (take i xs)) ++ z ∷ []) e ∙ sym (grown true k))

  pub skipped : (start out : List Y) → out ≡ start ++ map f (filter p (take i xs)) → p x ≡ false → out ≡ start ++ map f (filter p (take (i + 1) xs))
  skipped start out h k = h ∙ ap (λ (l : List Y). start ++ l) (sym (grown false k ∙ append-nil (map f (filter p (take i xs)))))
