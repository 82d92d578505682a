use Rattle.std.proofs.Common.{sym}
use Rattle.tb_csv.proofs.Unquoted.{kept, stripped}
use Rattle.tb_csv.proofs.marks.behind_mark.Goals as goal

pub returns-then-has_byte_order_mark : goal.returns-then-has_byte_order_mark
returns-then-has_byte_order_mark c = stripped c.args.text.now (sym c.if-has_byte_order_mark.ensures)

pub returns-else-has_byte_order_mark : goal.returns-else-has_byte_order_mark
returns-else-has_byte_order_mark c = kept c.args.text.now (sym c.if-has_byte_order_mark.ensures)
