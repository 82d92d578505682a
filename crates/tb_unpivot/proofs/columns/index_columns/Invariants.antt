use Rattle.std.proofs.Common.{◌≡◌, map, take}
use Rattle.tb_chunk.specs.Lent.{lent_columns}
use Rattle.tb_frame.specs.Promise.Table.{table_of}
use Rattle.tb_unpivot.specs.Promise.Unpivot.{repeated}
use Rattle.tb_unpivot.proofs.columns.index_columns.Given as goal

abbrev pub invariant-loop-column : goal.invariant-loop-column
invariant-loop-column l = table_of l.repeats.items ≡ map (repeated l.times) (table_of (lent_columns (take l.column-index l.columns)))
