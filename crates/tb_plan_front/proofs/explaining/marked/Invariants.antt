use Rattle.std.proofs.Common.{◌≡◌, ◌++◌}
use Rattle.tb_plan_front.specs.Explained.{lines_view}
use Rattle.tb_plan_front.proofs.explaining.marked.Given as goal

abbrev pub invariant-loop-line : goal.invariant-loop-line
invariant-loop-line l = lines_view l.fn.lines.items ≡ lines_view l.marked.items ++ lines_view l.line-iterator.rest.items
