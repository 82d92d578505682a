-- What a merge was.
use Rattle.std.specs.Prelude.{ℕ}

-- how many left keys, right keys and matched pairs there were, and how many comparisons were made
pub record MergedView : Type 0 where
  pub left_len : ℕ
  pub right_len : ℕ
  pub pairs : ℕ
  pub comparisons : ℕ
