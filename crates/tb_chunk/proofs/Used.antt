-- Facts on the buffers that rows lie in.
use Rattle.std.proofs.Common.{◌≡◌, ℕ, zero, suc, List, [], ◌∷◌, Option, None, map, get_or, refl}
use Rattle.tb_view.specs.declared.view.View.{View}

-- values that are no texts have no views
pub no_view_at : {N : Type 0} (cells : List (Option N)) (row : ℕ) → ◌≡◌ {A = Option View} (get_or (map (λ _. None) cells) row None) None
no_view_at [] row = refl
no_view_at (c ∷ cells) zero = refl
no_view_at (c ∷ cells) (suc row) = no_view_at cells row
