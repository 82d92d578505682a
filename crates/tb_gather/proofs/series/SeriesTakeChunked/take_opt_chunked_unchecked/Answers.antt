use Rattle.std.proofs.Common.{arith}
use Rattle.tb_gather.proofs.series.SeriesTakeChunked.take_opt_chunked_unchecked.Goals as goal

pub gather_series-requires : goal.gather_series-requires
gather_series-requires g c = (omega arith, (c.requires.named 0 c.args.self.now (omega arith), (c.requires.few, tt)))
