-- Words that are names as a whole.
use Rattle.std.proofs.Common.{◌≡◌, List, [], ◌∷◌, ℕ, map, refl, ap}
use Rattle.tb_words.specs.Words.{name_in}
use Rattle.tb_words.specs.declared.names.Part.TheVariants.{Whole}

pub whole_names : (ws : List (List ℕ)) → map (name_in Whole) ws ≡ ws
whole_names [] = refl
whole_names (w ∷ ws) = ap (λ vs. w ∷ vs) (whole_names ws)
