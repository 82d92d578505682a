use Rattle.std.proofs.Common.{◌≡◌}
use Rattle.tb_frame.specs.Frame.{without_names}
use Rattle.tb_join.specs.AnswerColumns.{with_names}
use Rattle.tb_join.proofs.kept.parted.Given as goal

abbrev pub invariant-loop-column : goal.invariant-loop-column
invariant-loop-column l = record {
  named : l.named.items ≡ with_names l.names l.yielded;
  others : l.others.items ≡ without_names l.names l.yielded;
}
