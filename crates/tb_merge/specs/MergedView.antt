-- What a merge was.
use Rattle.std.specs.Prelude.{◌≡◌, ℤ, List, length}
use Rattle.tb_merge.specs.Keys.{inner_listing}
use Rattle.tb_merge.specs.Promise.MergedView.{MergedView}

-- a merge was of these keys: their numbers, and the number of pairs that match
pub record IsMergeOf (left right : List ℤ) (merged : MergedView) : Type 0 where
  pub left_len : merged.left_len ≡ length left
  pub right_len : merged.right_len ≡ length right
  pub pairs : merged.pairs ≡ length (inner_listing left right)
