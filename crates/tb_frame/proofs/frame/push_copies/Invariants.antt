use Rattle.std.proofs.Common.{◌≡◌, ◌++◌, take}
use Rattle.tb_frame.proofs.frame.push_copies.Given as goal

abbrev pub invariant-loop-column : goal.invariant-loop-column
invariant-loop-column l = l.copies.items ≡ l.fn.copies.items ++ take l.column-index l.columns
