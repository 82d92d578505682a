use Rattle.std.proofs.Common.{◌≡◌, false, take}
use Rattle.std.specs.List.{list_any}
use Rattle.tb_chunk.specs.Promise.Col.{values}
use Rattle.tb_layout.specs.Promise.Lines.{cell_of, is_wide}
use Rattle.tb_layout.proofs.cells.is_cut.Given as goal

abbrev pub invariant-loop-row : goal.invariant-loop-row
invariant-loop-row l = list_any (λ v. is_wide l.line (cell_of l.column.kind v)) (take l.row (values l.column)) ≡ false
