-- A loop that keeps what a function finds for each element.
use Rattle.std.proofs.Common.{◌≡◌, ℕ, ◌+◌, ◌<◌, List, [], ◌∷◌, ◌++◌, length, get_or, take, ap, sym, ◌∙◌, Option, Some}
use Rattle.std.specs.List.{filter_map, cons_option}
use Rattle.std.proofs.lemmas.List.{take_more}
use Rattle.std.proofs.lemmas.List.Elements.{filter_map-append}

module _ {X Y : Type 0} (h : X → Option Y) (xs : List X) (i : ℕ) (x : X) (low : i < length xs) (is : x ≡ get_or xs i x) (out : List Y) (so_far : out ≡ filter_map h (take i xs)) where
  grown : filter_map h (take (i + 1) xs) ≡ filter_map h (take i xs) ++ cons_option (h x) []
  grown = ap (filter_map h) (take_more xs i x low) ∙ filter_map-append h (take i xs) (get_or xs i x ∷ []) ∙ ap (λ (y : X). filter_map h (take i xs) ++ cons_option (h y) []) (sym is)

  pub picked : (y : Y) → h x ≡ Some y → out ++ y ∷ [] ≡ filter_map h (take (i + 1) xs)
  picked y e = ap (λ (l : List Y). l ++ y ∷ []) so_far ∙ sym (grown ∙ ap (λ (o : Option Y). filter_map h (take i xs) ++ cons_option o []) e)
