use Rattle.std.proofs.Common.{◌≡◌, ◌+◌, ◌++◌, length, map, take}
use Rattle.tb_value.specs.Promise.Datum.{struct, items_of}
use Rattle.tb_cell.proofs.cell.FieldValuesCell.append_copies.Given as goal

abbrev pub invariant-loop-fields : goal.invariant-loop-fields
invariant-loop-fields l = record {
  same : map (λ s. struct (items_of s.values)) l.to.items ≡ map (λ s. struct (items_of s.values)) l.initial.to.items ++ map (λ s. struct (items_of s.values)) (take l.fields-index l.from);
  many : length l.to.items ≡ length l.initial.to.items + l.fields-index;
}
