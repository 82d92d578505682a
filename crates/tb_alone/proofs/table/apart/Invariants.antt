use Rattle.std.proofs.Common.{◌≡◌, ℕ, take, map}
use Rattle.tb_build.specs.Packed.{keys_of}
use Rattle.tb_alone.proofs.table.apart.Given as goal

abbrev pub invariant-loop-item : goal.invariant-loop-item
invariant-loop-item g l = record {
  keys : l.keys.items ≡ keys_of (take l.item-index l.items);
  rows : l.rows.items ≡ map (λ (e : g.row.K.Denot × ℕ). e.1) (take l.item-index l.items);
}
