-- What the chunks of texts hold: views, and the buffers that they stand over.
use Rattle.std.specs.Prelude.{ℕ, List, Option}
use Rattle.tb_view.specs.declared.view.View.{View}

-- a view for each row, and the buffers
pub record ViewArray : Type 0 where
  pub views : List (Option View)
  pub buffers : List (List ℕ)
