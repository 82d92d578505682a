use Rattle.std.proofs.Common.{◌≡◌, ◌+◌, drop, map}
use Rattle.tb_chunk.specs.RunLayout.{total_of}
use Rattle.tb_request.specs.Lent.{run_view}
use Rattle.tb_request.proofs.runs.room_after_runs.Given as goal

-- the room that is left, and the rows that are left
abbrev pub invariant-loop-run : goal.invariant-loop-run
invariant-loop-run l = total_of (map run_view l.runs) + l.room ≡ total_of (map run_view (drop l.run-index l.runs)) + l.fn.room
