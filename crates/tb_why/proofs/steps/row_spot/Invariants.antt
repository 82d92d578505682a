use Rattle.std.proofs.Common.{map}
use Rattle.std.specs.List.{zip}
use Rattle.tb_tree.specs.View.{listed}
use Rattle.tb_why.specs.Lent.{kind_in}
use Rattle.tb_why.specs.Steps.{typed_cell_spot}
use Rattle.tb_why.proofs.Walks.{Walk}
use Rattle.tb_why.proofs.steps.row_spot.Given as goal

abbrev pub invariant-loop-i : goal.invariant-loop-i
invariant-loop-i l = Walk typed_cell_spot (zip (map kind_in l.dtypes) (listed l.values)) l.i
