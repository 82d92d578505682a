use Rattle.std.proofs.Common.{◌∙◌, sym}
use Rattle.tb_cell.proofs.Nulls.{nulls_of_cells}
use Rattle.tb_chunk.proofs.cells.CellsChunk.null_count.Goals as goal

pub returns : goal.returns
returns g c = c.none_count.ensures ∙ sym (nulls_of_cells g.N.Cell.shows g.N.Cell.some c.args.self.now)
