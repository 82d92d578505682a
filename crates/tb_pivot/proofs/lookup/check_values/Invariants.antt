use Rattle.std.proofs.Common.{◌≡◌, drop}
use Rattle.tb_chunk.specs.Lent.{lent_columns}
use Rattle.tb_frame.specs.Promise.Table.{table_of}
use Rattle.tb_pivot.specs.Promise.Refusal.{agg_cause}
use Rattle.tb_pivot.proofs.lookup.check_values.Given as goal

-- the columns that are left decide
abbrev pub invariant-loop-column : goal.invariant-loop-column
invariant-loop-column g l = agg_cause (g.M.CellMaker.way l.maker) (table_of (lent_columns l.columns)) ≡ agg_cause (g.M.CellMaker.way l.maker) (table_of (lent_columns (drop l.column-index l.columns)))
