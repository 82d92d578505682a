use Rattle.std.proofs.Common.{◌≡◌, drop, is_some, map}
use Rattle.tb_value.specs.SeeKind.{kind_of}
use Rattle.tb_json.specs.Promise.Lists.{each}
use Rattle.tb_request.specs.Promise.Columns.{run_in}
use Rattle.tb_request.specs.Lent.{run_view}
use Rattle.tb_request.proofs.values.are_of.Given as goal

-- the runs that are left decide
abbrev pub invariant-loop-run : goal.invariant-loop-run
invariant-loop-run l = is_some (each (run_in (kind_of l.dtype)) (map run_view l.runs)) ≡ is_some (each (run_in (kind_of l.dtype)) (map run_view (drop l.run-index l.runs)))
