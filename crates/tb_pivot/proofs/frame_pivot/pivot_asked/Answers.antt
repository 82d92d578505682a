use Rattle.std.proofs.Common.{of_calls, subst, sym}
use Rattle.tb_value.specs.declared.error.PolarsError.{PolarsError}
use Rattle.std.proofs.Common.{Result}
use Rattle.tb_frame.specs.Promise.Table.{TableColumn, plain_column}
use Rattle.tb_pivot.specs.Answered.{Gives}
use Rattle.tb_pivot.specs.Promise.Pivot.{answer_of}
use Rattle.tb_pivot.proofs.frame_pivot.pivot_asked.Goals as goal

pub pivot_by-requires : goal.pivot_by-requires
pivot_by-requires g c = (
  search of_calls,
  λ alloc column groups r h.
      subst (λ (due : Result TableColumn PolarsError). Gives r due)
      (λ t. answer_of groups.now.firsts.items groups.now.numbers.items (plain_column column.now) (sym c.requires.name t) (sym c.requires.answers t))
      h.1,
)
