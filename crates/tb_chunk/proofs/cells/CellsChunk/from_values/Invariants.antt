use Rattle.std.proofs.Common.{◌≡◌, map, take}
use Rattle.tb_value.specs.See.{datum}
use Rattle.tb_cell.specs.Shown.{or_null}
use Rattle.tb_chunk.proofs.cells.CellsChunk.from_values.Given as goal

abbrev pub invariant-loop-value : goal.invariant-loop-value
invariant-loop-value g l = map (or_null g.N.Cell.shows) l.cells ≡ map datum (take l.value-index l.values)
