use Rattle.std.proofs.Common.{◌≡◌, ◌++◌, length, map}
use Rattle.tb_delta_front.specs.Changes.{sign_cell}
use Rattle.tb_delta_front.proofs.changes.sign_chunk.Given as goal

-- the signs so far and those of the changes that are left
abbrev pub invariant-loop-first : goal.invariant-loop-first
invariant-loop-first l = l.signs.rows ++ map sign_cell l.rest ≡ map sign_cell l.changes

abbrev pub decreases-loop-first : goal.decreases-loop-first
decreases-loop-first l = length l.rest
