use Rattle.tb_tree.specs.View.{listed}
use Rattle.tb_why.specs.Columns.{column_spot}
use Rattle.tb_why.proofs.Walks.{Walk}
use Rattle.tb_why.proofs.columns.single_spot.Given as goal

abbrev pub invariant-loop-i : goal.invariant-loop-i
invariant-loop-i l = Walk (column_spot l.format l.reason l.height) (listed l.columns) l.i
