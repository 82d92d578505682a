use Rattle.std.proofs.Common.{arith}
use Rattle.tb_gather.proofs.arrays.ChunkedArrayTakeChunked.take_opt_chunked_unchecked.Goals as goal

pub gather_array-requires : goal.gather_array-requires
gather_array-requires g c = (omega arith, (c.requires.named 0 c.args.self.now (omega arith), (c.requires.few, tt)))
