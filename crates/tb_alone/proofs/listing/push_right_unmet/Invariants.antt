use Rattle.std.proofs.Common.{◌≡◌, ◌++◌}
use Rattle.tb_value.specs.Promise.Pairs.{right_unmet}
use Rattle.tb_frame.specs.Promise.Join.{matches}
use Rattle.tb_frame.specs.Promise.Table.{table_of, height}
use Rattle.tb_keys.specs.Asked.{asked_request}
use Rattle.tb_alone.proofs.listing.push_right_unmet.Given as goal

abbrev pub invariant-loop-j : goal.invariant-loop-j
invariant-loop-j l = l.pairs.items ≡ l.initial.pairs.items ++ right_unmet (height (table_of l.request.left.now)) l.j (matches (asked_request l.request))
