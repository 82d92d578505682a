use Rattle.std.proofs.Common.{◌≡◌, Some, map, take}
use Rattle.std.specs.Prelude.{replicate}
use Rattle.tb_delta_front.specs.Changes.{sign_cell}
use Rattle.tb_delta_front.specs.Promise.Deltas.{sign_of}
use Rattle.tb_delta_front.proofs.changes.count_alike.Given as goal

abbrev pub invariant-loop-change : goal.invariant-loop-change
invariant-loop-change l = (l.count ≡ l.change-index) × (map sign_cell (take l.count l.changes) ≡ replicate l.count (Some (sign_of l.comes)))
