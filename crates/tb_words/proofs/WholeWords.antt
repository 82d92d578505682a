-- Words that are names as a whole.
use Rattle.std.proofs.Common.{◌≡◌, List, [], ◌∷◌, ℕ, map, Option, Some, None, unwrap_or, refl, ap}
use Rattle.std.specs.Borrow.{Bor}
use Rattle.tb_words.specs.Words.{given_words, name_in}
use Rattle.tb_words.specs.declared.names.Part.TheVariants.{Whole}

pub whole : (ws : List (List ℕ)) → map (name_in Whole) ws ≡ ws
whole [] = refl
whole (w ∷ ws) = ap (λ vs. w ∷ vs) (whole ws)

pub some_words : (o : Option (Bor (List (Bor (List ℕ))))) (w : Bor (List (Bor (List ℕ)))) → o ≡ Some w → Some (unwrap_or (given_words o) []) ≡ given_words o
some_words None w is = cc
some_words (Some v) w is = refl
