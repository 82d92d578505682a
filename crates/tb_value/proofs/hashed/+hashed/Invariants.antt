use Rattle.std.proofs.Common.{◌≡◌, ◌+◌, ◌*◌, fold, map, drop}
use Rattle.tb_value.specs.Promise.Datum.{items_of, weight, weights}
use Rattle.tb_value.specs.Fed.{fed_each, fed_items}
use Rattle.tb_value.specs.See.{datum, lent_value}
use Rattle.tb_value.proofs.hashed.+hashed.Given as goal

abbrev pub decreases-hash_ref : goal.decreases-hash_ref
decreases-hash_ref g l = 2 * weight (lent_value l.value)

abbrev pub decreases-hash_values : goal.decreases-hash_values
decreases-hash_values g l = 2 * weights (items_of l.values.now) + 1

-- what is left is fed to the state so far
abbrev pub invariant-hash_values-loop-value : goal.invariant-hash_values-loop-value
invariant-hash_values-loop-value g l = fold g.H.Hasher.write l.state (fed_each (items_of (map datum (drop l.value-index l.value-items)))) ≡ fold g.H.Hasher.write l.fn.state (fed_items (items_of (map datum l.value-items)))
