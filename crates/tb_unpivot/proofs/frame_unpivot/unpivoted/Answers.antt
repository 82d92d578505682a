use Rattle.std.proofs.Common.{◌∙◌}
use Rattle.tb_unpivot.proofs.Answered.{asked_of}
use Rattle.tb_unpivot.proofs.LongParts.{whole_table}
use Rattle.tb_unpivot.proofs.frame_unpivot.unpivoted.Goals as goal

pub returns-clause-table : goal.returns-clause-table
returns-clause-table c =
    c.in_ok-block.ensures
    ∙ whole_table (asked_of c.args.table.now c.args.on.now c.args.index.now c.args.variable.now c.args.value.now) c.in_ok-blocks.blocks _ c.in_ok-blocks.ensures.parts c.len.ensures
