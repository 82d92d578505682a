-- Pairs of a listing, in an order that is said.
use Rattle.tb_merge.specs.Promise.MergedView.{MergedView}
use Rattle.tb_sorted.specs.Promise.Keys.{MergeSizes}

-- the merge was of this size
abbrev pub sizes_of : MergedView → MergeSizes
sizes_of merged =
    record { left_len = merged.left_len; right_len = merged.right_len; pairs = merged.pairs }
