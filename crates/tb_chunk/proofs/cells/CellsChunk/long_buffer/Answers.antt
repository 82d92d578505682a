use Rattle.std.proofs.Common.{ap, sym}
use Rattle.tb_view.specs.Moved.{used_buffer}
use Rattle.tb_chunk.proofs.Used.{no_view_at}
use Rattle.tb_chunk.proofs.cells.CellsChunk.long_buffer.Goals as goal

pub returns-clause-buffer : goal.returns-clause-buffer
returns-clause-buffer g c = ap used_buffer (sym (no_view_at c.args.self.now c.args._row))
