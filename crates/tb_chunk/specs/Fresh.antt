-- What chunks that are made of values hold of texts.
use Rattle.std.specs.Prelude.{List, [], ◌∷◌, None, map}
use Rattle.tb_view.specs.Promise.ViewArrays.{ViewArray}

-- values that are no texts have no view and no buffer
abbrev pub no_views : {N : Type 0} → List N → ViewArray
no_views xs = record { views = map (λ _. None) xs; buffers = [] }

-- no chunk at all makes one empty chunk
abbrev pub or_one_view_array : List ViewArray → List ViewArray
or_one_view_array [] = record { views = []; buffers = [] } ∷ []
or_one_view_array (r ∷ rs) = r ∷ rs
