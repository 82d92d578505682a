use Rattle.std.proofs.Common.{◌≡◌, ◌++◌}
use Rattle.tb_frame.specs.Promise.Join.{matches}
use Rattle.tb_frame.specs.Promise.Table.{table_of, height}
use Rattle.tb_keys.specs.Asked.{asked_request}
use Rattle.tb_keys.specs.Met.{left_alone}
use Rattle.tb_alone.proofs.listing.push_left.Given as goal

abbrev pub invariant-loop-i : goal.invariant-loop-i
invariant-loop-i l = l.pairs.items ≡ l.initial.pairs.items ++ left_alone l.met l.i (height (table_of l.request.right.now)) (matches (asked_request l.request))
