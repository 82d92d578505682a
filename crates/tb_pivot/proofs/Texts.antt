-- Texts in a row, and headers of one value and of several.
use Rattle.std.proofs.Common.{◌≡◌, ◌≢◌, ◌∙◌, ℕ, List, [], ◌∷◌, ◌++◌, length, map, refl, sym, ap, append_assoc}
use Rattle.std.specs.List.{join_with_byte}
use Rattle.tb_value.specs.Promise.Datum.{Datum}
use Rattle.tb_pivot.specs.Promise.Headers.{field_text, header_text, in_braces}

-- one text more
pub joined_more : (x : List ℕ) (ys : List (List ℕ)) (y : List ℕ) → join_with_byte 44 (x ∷ (ys ++ y ∷ [])) ≡ join_with_byte 44 (x ∷ ys) ++ (44 ∷ y)
joined_more x [] y = refl
joined_more x (z ∷ zs) y =
    ap (λ (t : List ℕ). x ++ (44 ∷ t)) (joined_more z zs y)
    ∙ sym (append_assoc x (44 ∷ join_with_byte 44 (z ∷ zs)) (44 ∷ y))

pub header_of_many : (vs : List Datum) → length vs ≢ 1 → header_text vs ≡ in_braces (map field_text vs)
header_of_many [] many = refl
header_of_many (v ∷ []) many = absurd (many refl)
header_of_many (v ∷ w ∷ vs) many = refl

pub map_twice : {A B C : Type 0} (f : B → C) (g : A → B) (xs : List A) → map f (map g xs) ≡ map (λ x. f (g x)) xs
map_twice f g [] = refl
map_twice f g (x ∷ xs) = ap (λ ys. f (g x) ∷ ys) (map_twice f g xs)
