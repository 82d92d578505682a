-- Lists, one after another.
use Rattle.std.proofs.Common.{◌≡◌, List, [], ◌∷◌, ◌++◌, ap, ◌∙◌, sym, refl, append_assoc}
use Rattle.tb_value.specs.Promise.Datum.{Datum}
use Rattle.tb_chunk.specs.Promise.Col.{concatenation}

pub flat-push : (xss : List (List Datum)) (xs : List Datum) → concatenation (xss ++ xs ∷ []) ≡ concatenation xss ++ xs
flat-push [] [] = refl
flat-push [] (x ∷ xs) = ap (λ ys. x ∷ ys) (flat-push [] xs)
flat-push (ys ∷ yss) xs = ap (λ zs. ys ++ zs) (flat-push yss xs) ∙ sym (append_assoc ys (concatenation yss) xs)
