-- Tables that tests make.
use Rattle.std.specs.Prelude.{◌≡◌, List, [], ◌∷◌, codes}
use Rattle.tb_chunk.specs.Promise.Col.{Col}

-- the columns k and k_right, of one type
pub record HasBothKeys (cs : List Col) : Type 0 where
  pub key : Col
  pub right : Col
  pub columns : cs ≡ key ∷ right ∷ []
  pub called : key.name ≡ codes "k"
  pub right_called : right.name ≡ codes "k_right"
  pub alike : key.kind ≡ right.kind
