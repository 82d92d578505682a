use Rattle.std.proofs.Common.{false, sym, true, ◌∙◌}
use Rattle.tb_csv.proofs.LineWalks.{line_more}
use Rattle.tb_csv.proofs.line_numbers.line_at.Goals as goal
use Rattle.tb_csv.proofs.line_numbers.line_at.Goals.{then-ends_line, else-ends_line}

pub loop-i-preserved : goal.loop-i-preserved
loop-i-preserved c = elim c.if-ends_line.branch [
  | then-ends_line w ↦ line_more c.args.text.now c.loop-i.i _ _ true (sym w.if-ends_line.true ∙ c.ends_line.ensures) w.line-is c.loop-i.invariant
  | else-ends_line w ↦ line_more c.args.text.now c.loop-i.i _ _ false (sym w.if-ends_line.false ∙ c.ends_line.ensures) w.line-is c.loop-i.invariant
]
