use Rattle.std.proofs.Common.{◌≡◌, drop}
use Rattle.tb_rows.specs.Fields.{same_at}
use Rattle.tb_rows.proofs.fields.same_fields.Given as goal

-- the values that are left decide
abbrev pub invariant-loop-column : goal.invariant-loop-column
invariant-loop-column l = same_at l.columns l.first l.second ≡ same_at (drop l.column-index l.columns) l.first l.second
