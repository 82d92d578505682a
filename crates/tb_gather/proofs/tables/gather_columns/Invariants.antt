use Rattle.std.proofs.Common.{◌≡◌, take, map}
use Rattle.tb_gather.specs.Gathered.{gathered_column}
use Rattle.tb_gather.proofs.tables.gather_columns.Given as goal

abbrev pub invariant-loop-column : goal.invariant-loop-column
invariant-loop-column g l = l.gathered.items ≡ map (gathered_column l.by l.sorted) (take l.column-index l.columns)
