use Rattle.std.proofs.Common.{◌≡◌, take}
use Rattle.std.specs.List.{All}
use Rattle.tb_frame.specs.Frame.{lens}
use Rattle.tb_gather.proofs.lent.are_cut_as.Given as goal

-- the columns so far are cut as the first
abbrev pub invariant-loop-column : goal.invariant-loop-column
invariant-loop-column l = All (λ b. lens b.now ≡ lens l.fn.first) (take l.column-index l.columns)
