use Rattle.std.proofs.Common.{◌≡◌, drop, is_some, map}
use Rattle.tb_tree.specs.View.{view}
use Rattle.tb_json.specs.Promise.Lists.{as_list, each}
use Rattle.tb_request.proofs.shape.are_arrays.Given as goal

-- the values that are left decide
abbrev pub invariant-loop-value : goal.invariant-loop-value
invariant-loop-value l = is_some (each as_list (map view l.values)) ≡ is_some (each as_list (map view (drop l.value-index l.values)))
