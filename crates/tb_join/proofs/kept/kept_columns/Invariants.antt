use Rattle.std.proofs.Common.{◌≡◌, take}
use Rattle.tb_chunk.specs.Lent.{lent_columns}
use Rattle.tb_frame.specs.Frame.{without_names}
use Rattle.tb_join.proofs.kept.kept_columns.Given as goal

abbrev pub invariant-loop-column : goal.invariant-loop-column
invariant-loop-column l = lent_columns l.kept.items ≡ without_names l.fn.gone (take l.column-index l.columns)
