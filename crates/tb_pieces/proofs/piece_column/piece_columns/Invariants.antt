use Rattle.std.proofs.Common.{◌≡◌, take}
use Rattle.tb_pieces.proofs.piece_column.piece_columns.Given as goal

abbrev pub invariant-loop-column : goal.invariant-loop-column
invariant-loop-column l = l.lent.items ≡ take l.column-index l.columns
