use Rattle.tb_pivot.proofs.frame_pivot.pivot_stable.Given as goal

-- what the object answers
abbrev pub ghosts-pivot_asked : goal.ghosts-pivot_asked
ghosts-pivot_asked g a = record {
  told_name = (g.dyn-1.0.entry a.expr.now.0).1.named a.expr.now.1;
  told_answers = (g.dyn-1.0.entry a.expr.now.0).1.answers a.expr.now.1;
}
