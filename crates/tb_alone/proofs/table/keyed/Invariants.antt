use Rattle.tb_value.specs.Promise.Pairs.{row_numbers}
use Rattle.tb_build.specs.Pieces.{AreItemsOf}
use Rattle.tb_alone.proofs.table.keyed.Given as goal

abbrev pub invariant-loop-row : goal.invariant-loop-row
invariant-loop-row g l = AreItemsOf g.K.PartialEq.eq (g.L.KeyList.list l.list) (row_numbers l.row) l.items.items
