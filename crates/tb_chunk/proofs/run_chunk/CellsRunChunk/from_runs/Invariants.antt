use Rattle.std.proofs.Common.{◌≡◌, map, take}
use Rattle.tb_cell.specs.Shown.{or_null}
use Rattle.tb_view.specs.RunViews.{data_runs}
use Rattle.tb_chunk.specs.RunLayout.{expansion}
use Rattle.tb_chunk.proofs.run_chunk.CellsRunChunk.from_runs.Given as goal

abbrev pub invariant-loop-value : goal.invariant-loop-value
invariant-loop-value g l = map (or_null g.N.Cell.shows) l.cells ≡ expansion (data_runs (take l.value-index l.runs))
