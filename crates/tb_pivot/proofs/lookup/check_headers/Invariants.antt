use Rattle.std.proofs.Common.{◌≡◌, drop}
use Rattle.tb_chunk.specs.Lent.{lent_columns}
use Rattle.tb_frame.specs.Promise.Table.{table_of}
use Rattle.tb_pivot.specs.Promise.Refusal.{header_cause}
use Rattle.tb_pivot.proofs.lookup.check_headers.Given as goal

-- the columns that are left decide
abbrev pub invariant-loop-column : goal.invariant-loop-column
invariant-loop-column l = header_cause (table_of (lent_columns l.columns)) ≡ header_cause (table_of (lent_columns (drop l.column-index l.columns)))
