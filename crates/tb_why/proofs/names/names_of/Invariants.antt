use Rattle.std.proofs.Common.{◌≡◌, map, take}
use Rattle.tb_tree.specs.View.{listed}
use Rattle.tb_why.specs.Columns.{name_at}
use Rattle.tb_why.proofs.names.names_of.Given as goal

abbrev pub invariant-loop-i : goal.invariant-loop-i
invariant-loop-i l = l.names.items ≡ map name_at (take l.i (listed l.columns))
