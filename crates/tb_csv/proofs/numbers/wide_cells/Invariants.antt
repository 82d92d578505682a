use Rattle.std.proofs.Common.{◌≡◌, None, get_or, map}
use Rattle.tb_value.specs.Promise.Datum.{int}
use Rattle.tb_value.specs.Promise.Pairs.{row_numbers}
use Rattle.tb_chunk.specs.Chunk.{or_null}
use Rattle.tb_csv.proofs.numbers.wide_cells.Given as goal

abbrev pub invariant-loop-row : goal.invariant-loop-row
invariant-loop-row l = map (or_null int) l.cells ≡ map (λ i. or_null int (get_or l.narrow i None)) (row_numbers l.row)
