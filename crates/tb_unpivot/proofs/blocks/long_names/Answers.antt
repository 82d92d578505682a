use Rattle.std.proofs.Common.{◌∙◌}
use Rattle.tb_unpivot.proofs.Lists.{name_more}
use Rattle.tb_unpivot.proofs.blocks.long_names.Goals as goal

pub loop-column-preserved : goal.loop-column-preserved
loop-column-preserved c =
    name_more c.loop-column.names.items _ c.args.index.now c.loop-column.column-index c.column-item.result _ c.loop-column-test.true c.column-item.is (c.in_ok-copy.ensures ∙ c.name.ensures) c.in_ok-push.ensures.items c.loop-column.invariant
