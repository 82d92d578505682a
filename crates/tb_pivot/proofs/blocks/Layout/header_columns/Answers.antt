use Rattle.tb_frame.specs.Promise.Table.{plain_column}
use Rattle.tb_pivot.specs.Layout.{header_column}
use Rattle.tb_pivot.proofs.Columns.{number_more}
use Rattle.tb_pivot.proofs.blocks.Layout.header_columns.Goals as goal

pub loop-header-preserved : goal.loop-header-preserved
loop-header-preserved c =
    number_more plain_column (header_column c.args.self.now c.args.value.now c.args.made.now) c.loop-header.columns.items c.push.new.self.items c.loop-header.header c.in_ok-header_column.field-0 c.in_ok-push.ensures.items c.in_ok-header_column.ensures c.loop-header.invariant
