use Rattle.std.proofs.Common.{length}
use Rattle.tb_rows.specs.Coded.{same_values}
use Rattle.tb_rows.proofs.Leaders.{AreLed}
use Rattle.tb_rows.proofs.coded.sorted_leaders.Given as goal

-- the leaders of the rows so far
abbrev pub invariant-loop-at : goal.invariant-loop-at
invariant-loop-at l = AreLed (same_values l.columns l.fn.rows.items) (length l.fn.rows.items) l.rows.items l.at l.leader l.leaders.items
