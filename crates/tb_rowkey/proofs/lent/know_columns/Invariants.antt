use Rattle.std.proofs.Common.{take}
use Rattle.std.specs.List.{All}
use Rattle.tb_chunk.specs.Col.{IsColumn}
use Rattle.tb_rowkey.proofs.lent.know_columns.Given as goal

-- what holds of the columns so far
abbrev pub invariant-loop-column : goal.invariant-loop-column
invariant-loop-column l = All (λ c. IsColumn c.now) (take l.column-index l.columns)
