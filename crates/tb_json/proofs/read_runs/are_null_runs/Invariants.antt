use Rattle.std.proofs.Common.{◌≡◌, drop, map}
use Rattle.tb_json.specs.Runs.{run_view}
use Rattle.tb_json.proofs.RunWalks.{are_null}
use Rattle.tb_json.proofs.read_runs.are_null_runs.Given as goal

-- the runs that are left decide
abbrev pub invariant-loop-run : goal.invariant-loop-run
invariant-loop-run l = are_null (map run_view l.runs) ≡ are_null (map run_view (drop l.run-index l.runs))
