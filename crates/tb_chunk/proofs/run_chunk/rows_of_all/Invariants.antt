use Rattle.std.proofs.Common.{◌≡◌, ◌+◌, ◌≤◌, drop}
use Rattle.tb_value.specs.declared.limits.TheConstants.{MAX_ROWS}
use Rattle.tb_chunk.specs.RunLayout.{total_of}
use Rattle.tb_chunk.proofs.run_chunk.rows_of_all.Given as goal

-- the room that is left, and the rows that are left
abbrev pub invariant-loop-times : goal.invariant-loop-times
invariant-loop-times l = (total_of l.runs + l.room ≡ total_of (drop l.times-index l.runs) + MAX_ROWS) × (l.room ≤ MAX_ROWS)
