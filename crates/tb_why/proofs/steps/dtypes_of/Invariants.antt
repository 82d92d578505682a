use Rattle.std.proofs.Common.{◌≡◌, map, take}
use Rattle.tb_tree.specs.View.{listed}
use Rattle.tb_why.specs.Columns.{kind_at}
use Rattle.tb_why.specs.Lent.{kinds_of}
use Rattle.tb_why.proofs.steps.dtypes_of.Given as goal

abbrev pub invariant-loop-i : goal.invariant-loop-i
invariant-loop-i l = kinds_of l.dtypes ≡ map kind_at (take l.i (listed l.columns))
