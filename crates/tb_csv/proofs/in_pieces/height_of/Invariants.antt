use Rattle.std.proofs.Common.{◌≡◌, ◌≤◌, take}
use Rattle.tb_value.specs.declared.limits.TheConstants.{MAX_ROWS}
use Rattle.tb_csv.specs.Read.{rows_in}
use Rattle.tb_csv.proofs.in_pieces.height_of.Given as goal

abbrev pub invariant-loop-run : goal.invariant-loop-run
invariant-loop-run l = (l.height ≡ rows_in (take l.run-index l.runs)) × (l.height ≤ MAX_ROWS)
