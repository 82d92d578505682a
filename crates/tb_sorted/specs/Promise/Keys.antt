-- Keys as the whole numbers that they are.
use Rattle.std.specs.Prelude.{ℕ}

-- how many keys of each side are merged, and how many pairs of rows match
pub record MergeSizes : Type 0 where
  pub left_len : ℕ
  pub right_len : ℕ
  pub pairs : ℕ
