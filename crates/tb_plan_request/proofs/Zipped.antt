-- Names and tables, one beside the other.
use Rattle.std.proofs.Common.{◌≡◌, ◌∙◌, ◌⊎◌, inl, inr, append-nil, List, [], ◌∷◌, ◌++◌, length, sym, ap, refl, arith}
use Rattle.std.specs.List.{zip}

none_left : {X Y : Type 0} (xs : List X) (ys : List Y) → (length xs ≡ 0) ⊎ (length ys ≡ 0) → zip xs ys ≡ []
none_left [] ys e = refl
none_left (x ∷ xs) [] e = refl
none_left (x ∷ xs) (y ∷ ys) (inl e) = absurd (omega (arith, e))
none_left (x ∷ xs) (y ∷ ys) (inr e) = absurd (omega (arith, e))

-- where one list has ended, all pairs of both are there
pub zip_ended : {X Y : Type 0} (done all : List (X × Y)) (xs : List X) (ys : List Y) → (length xs ≡ 0) ⊎ (length ys ≡ 0) → done ++ zip xs ys ≡ all → done ≡ all
zip_ended done all xs ys e h = sym (append-nil done) ∙ ap (λ ps. done ++ ps) (sym (none_left xs ys e)) ∙ h
