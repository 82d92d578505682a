use Rattle.tb_rows.specs.Coded.{AreToldByCodes}
use Rattle.tb_rows.proofs.coded.are_told_by_codes.Given as goal

-- the rows so far
abbrev pub invariant-loop-at : goal.invariant-loop-at
invariant-loop-at l = AreToldByCodes l.columns l.rows l.at
