use Rattle.std.proofs.Common.{◌≡◌, ◌+◌, ◌++◌, length, map, take}
use Rattle.tb_value.specs.Promise.Datum.{list, items_of}
use Rattle.tb_cell.proofs.cell.ValuesCell.append_copies.Given as goal

abbrev pub invariant-loop-values : goal.invariant-loop-values
invariant-loop-values l = record {
  same : map (λ vs. list (items_of vs)) l.to.items ≡ map (λ vs. list (items_of vs)) l.initial.to.items ++ map (λ vs. list (items_of vs)) (take l.values-index l.from);
  many : length l.to.items ≡ length l.initial.to.items + l.values-index;
}
