use Rattle.std.proofs.Common.{arith}
use Rattle.tb_value.specs.Pairs.{turn}
use Rattle.tb_sorted.proofs.Turned.{mapped_more}
use Rattle.tb_sorted.proofs.requested.turned.Goals as goal

pub loop-pair-preserved : goal.loop-pair-preserved
loop-pair-preserved c = mapped_more turn c.args.pairs.items c.loop-pair.pair-items c.loop-pair.pair-index c.pair-item.result c.loop-pair.invariant (omega (arith, c.loop-pair-test.true, c.loop-pair.auto))
