use Rattle.tb_tree.specs.View.{listed}
use Rattle.tb_value.specs.SeeKind.{kind_of}
use Rattle.tb_why.specs.Columns.{run_spot}
use Rattle.tb_why.proofs.Walks.{Walk}
use Rattle.tb_why.proofs.runs.runs_spot.Given as goal

abbrev pub invariant-loop-i : goal.invariant-loop-i
invariant-loop-i l = Walk (run_spot (kind_of l.dtype)) (listed l.runs) l.i
