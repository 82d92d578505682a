use Rattle.std.proofs.Common.{◌≡◌, ◌+◌, length, take}
use Rattle.tb_merge.specs.Progress.{IsMergedTo}
use Rattle.tb_merge.specs.RowPairs.{portion_rows}
use Rattle.tb_merge.proofs.by_portion.merge_portions.Given as goal

-- the rows of the portions so far are merged
abbrev pub invariant-loop-cut : goal.invariant-loop-cut
invariant-loop-cut g l = record {
  merged : IsMergedTo (g.K.Ascend.left_keys l.keys) (g.K.Ascend.right_keys l.keys) l.keep_unmatched l.pairs.items l.at;
  row : l.at.row ≡ length (portion_rows (take l.cut-index l.cuts));
  counted : l.at.cursor.comparisons + l.fn.steps ≡ l.steps;
}
