use Rattle.std.proofs.Common.{◌≡◌, drop}
use Rattle.tb_frame.specs.Promise.Table.{table_of}
use Rattle.tb_dummies.specs.Promise.Dummies.{header_cause}
use Rattle.tb_dummies.specs.Lent.{is_in}
use Rattle.tb_dummies.proofs.replaced.Replaced.check_types.Given as goal

-- the columns that are left decide
abbrev pub invariant-loop-column : goal.invariant-loop-column
invariant-loop-column l = header_cause (is_in l.self.names) (table_of l.columns) ≡ header_cause (is_in l.self.names) (table_of (drop l.column-index l.columns))
