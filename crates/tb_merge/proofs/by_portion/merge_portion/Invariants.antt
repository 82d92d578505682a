use Rattle.std.proofs.Common.{◌≡◌, ◌+◌}
use Rattle.tb_merge.specs.Progress.{IsMergedTo}
use Rattle.tb_merge.proofs.by_portion.merge_portion.Given as goal

-- so many rows more are merged
abbrev pub invariant-loop-row : goal.invariant-loop-row
invariant-loop-row g l = record {
  merged : IsMergedTo (g.K.Ascend.left_keys l.keys) (g.K.Ascend.right_keys l.keys) l.keep_unmatched l.pairs.items l.at;
  row : l.at.row ≡ l.fn.from.row + l.row;
  counted : l.at.cursor.comparisons + l.fn.steps ≡ l.fn.from.cursor.comparisons + l.steps;
}
