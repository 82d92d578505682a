use Rattle.tb_tree.specs.View.{listed}
use Rattle.tb_why.specs.Requests.{entry_spot}
use Rattle.tb_why.proofs.Walks.{Walk}
use Rattle.tb_why.proofs.requests.each_entry_spot.Given as goal

abbrev pub invariant-loop-i : goal.invariant-loop-i
invariant-loop-i l = Walk (entry_spot l.format l.reason) (listed l.entries) l.i
