use Rattle.tb_tree.specs.View.{listed}
use Rattle.tb_why.specs.Arguments.{flag_spot}
use Rattle.tb_why.proofs.Walks.{Walk}
use Rattle.tb_why.proofs.args.flags_spot.Given as goal

abbrev pub invariant-loop-i : goal.invariant-loop-i
invariant-loop-i l = Walk flag_spot (listed l.flags) l.i
