use Rattle.std.proofs.Common.{arith}
use Rattle.std.proofs.Math.Pow.{pow_mono}
use Rattle.tb_gather.proofs.Starts.{lens-count}
use Rattle.tb_gather.proofs.ids.id_of.Goals as goal

pub overflow_cast-chunk : goal.overflow_cast-chunk
overflow_cast-chunk g c = omega (arith, c.chunk_of-chunk.ensures.named.0, c.requires.few, lens-count c.args.column.now, pow_mono {i = g.row.B} {j = 32} c.requires.bits.1)
