use Rattle.std.proofs.Common.{◌≡◌}
use Rattle.tb_rows.specs.Coded.{coded_rows}
use Rattle.tb_rows.specs.Names.{name_of}
use Rattle.tb_rows.proofs.coded.coded_rows.Given as goal

-- the rows so far
abbrev pub invariant-loop-place : goal.invariant-loop-place
invariant-loop-place l = l.rows.items ≡ coded_rows l.columns (name_of l.names) l.place
