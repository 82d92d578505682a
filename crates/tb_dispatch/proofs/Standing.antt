-- Two lists of names, place by place.
use Rattle.std.proofs.Common.{◌≡◌, ◌<◌, ◌++◌, ℕ, zero, suc, List, [], ◌∷◌, length, get_or, map, take, ap, sym, arith}
use Rattle.std.specs.List.{zip}

-- the pairs of one more place
pub zip-more : {X Y Z : Type 0} (f : X × Y → Z) (xs : List X) (ys : List Y) (i : ℕ) (x : X) (y : Y) → length xs ≡ length ys → i < length xs → x ≡ get_or xs i x → y ≡ get_or ys i y
    → map f (zip (take (suc i) xs) (take (suc i) ys)) ≡ map f (zip (take i xs) (take i ys)) ++ f (x, y) ∷ []
zip-more f [] ys i x y same low at_x at_y = absurd (omega (arith, low))
zip-more f (a ∷ xs) [] i x y same low at_x at_y = absurd (omega (arith, same))
zip-more f (a ∷ xs) (b ∷ ys) zero x y same low at_x at_y = λ t. f (sym at_x t, sym at_y t) ∷ []
zip-more {X} {Y} {Z} f (a ∷ xs) (b ∷ ys) (suc i) x y same low at_x at_y = ap (λ (l : List Z). f (a, b) ∷ l) (zip-more f xs ys i x y (omega (arith, same)) (omega (arith, low)) at_x at_y)
