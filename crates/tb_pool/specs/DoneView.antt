-- What contracts see of parts that are done.
use Rattle.std.specs.Prelude.{ℕ, List}

-- the results in part order, and the parts that each worker claimed
pub record DoneView (O : Type 0) : Type 0 where
  pub results : List O
  pub claimed : List (List ℕ)
