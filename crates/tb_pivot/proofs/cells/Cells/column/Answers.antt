use Rattle.std.proofs.Common.{◌∙◌, ap, length}
use Rattle.tb_chunk.specs.Promise.Col.{values}
use Rattle.tb_pivot.proofs.Cell.{grid_long, under_within}
use Rattle.tb_pivot.proofs.cells.Cells.column.Goals as goal

pub cells_under-requires-clause-long : goal.cells_under-requires-clause-long
cells_under-requires-clause-long c = ap length c.requires.places ∙ grid_long c.args.self.now

pub take_opt-requires-clause-rows : goal.take_opt-requires-clause-rows
take_opt-requires-clause-rows c = under_within c.args.self.now c.args.header (length (values c.args.made.now)) c.cells_under.result.now c.requires.made c.cells_under.ensures
