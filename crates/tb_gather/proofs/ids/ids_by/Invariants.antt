use Rattle.std.proofs.Common.{◌≡◌, take, map}
use Rattle.tb_frame.specs.Frame.{lens}
use Rattle.tb_gather.specs.Ids.{row_or_none}
use Rattle.tb_gather.specs.Gathered.{NameRows}
use Rattle.tb_gather.proofs.ids.ids_by.Given as goal

abbrev pub invariant-loop-item : goal.invariant-loop-item
invariant-loop-item g l = record {
  named : NameRows l.ids.items l.column;
  rows : map (row_or_none (lens l.column)) l.ids.items ≡ map g.R.RowOf.number (take l.item-index l.items);
}
