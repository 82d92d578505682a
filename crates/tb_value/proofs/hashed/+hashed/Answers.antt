use Rattle.std.proofs.Common.{arith, ◌≡◌, fold, length, map, ap}
use Rattle.tb_value.specs.Promise.Datum.{items_of, data_in}
use Rattle.tb_value.specs.Fed.{fed_each}
use Rattle.tb_value.specs.See.{datum}
use Rattle.tb_value.proofs.Lengths.{length-data_in}
use Rattle.tb_value.proofs.hashed.+hashed.Goals as goal

pub hash_values-loop-value-init : goal.hash_values-loop-value-init
hash_values-loop-value-init g t c =
    let items = c.deref-value-items.result.now in
    let all : length (data_in (items_of (map datum items))) ≡ c.len.result = omega (arith, length-data_in items, c.len.ensures, c.values.inside.items.ok.0, ap length c.deref-value-items.ensures.value) in
    rw all (ap (λ s. fold g.H.Hasher.write s (fed_each (items_of (map datum items)))) c.write_usize.ensures)
