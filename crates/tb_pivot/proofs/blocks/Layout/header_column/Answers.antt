use Rattle.tb_pivot.proofs.Columns.{layout_rows}
use Rattle.tb_pivot.proofs.blocks.Layout.header_column.Goals as goal

pub column-requires-clause-rows : goal.column-requires-clause-rows
column-requires-clause-rows c = layout_rows c.args.self.now c.requires.layout
