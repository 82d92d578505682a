use Rattle.std.proofs.Common.{◌≡◌, take, map}
use Rattle.tb_value.specs.declared.index.JoinPair.{JoinPair}
use Rattle.tb_frame.proofs.right_columns.left_rows.Given as goal

abbrev pub invariant-loop-pair : goal.invariant-loop-pair
invariant-loop-pair l = l.rows.items ≡ map (λ (p : JoinPair). p.left) (take l.pair-index l.pairs)
