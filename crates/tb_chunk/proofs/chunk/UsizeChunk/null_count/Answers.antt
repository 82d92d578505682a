use Rattle.std.proofs.Common.{sym}
use Rattle.tb_cell.proofs.Nulls.{nulls_of_replicated}
use Rattle.tb_chunk.proofs.chunk.UsizeChunk.null_count.Goals as goal

pub returns : goal.returns
returns c = sym (nulls_of_replicated c.args.self.now)
