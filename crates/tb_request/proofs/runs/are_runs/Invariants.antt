use Rattle.std.proofs.Common.{◌≡◌, drop, is_some, map}
use Rattle.tb_tree.specs.View.{view}
use Rattle.tb_value.specs.SeeKind.{kind_of}
use Rattle.tb_json.specs.Promise.Lists.{each}
use Rattle.tb_request.specs.Promise.Written.{run_of}
use Rattle.tb_request.proofs.runs.are_runs.Given as goal

-- the values that are left decide
abbrev pub invariant-loop-value : goal.invariant-loop-value
invariant-loop-value l = is_some (each (run_of (kind_of l.dtype)) (map view l.values)) ≡ is_some (each (run_of (kind_of l.dtype)) (map view (drop l.value-index l.values)))
