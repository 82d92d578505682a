use Rattle.std.proofs.Common.{arith, sym}
use Rattle.tb_frame.specs.Promise.Table.{plain_column}
use Rattle.tb_layout.proofs.Widths.{not_cut}
use Rattle.tb_layout.proofs.cells.is_cut.Goals as goal

pub returns-then-width-line : goal.returns-then-width-line
returns-then-width-line c = sym (not_cut c.args.line (plain_column c.args.column.now) (omega (arith, c.if-width-line.true, c.requires)))
