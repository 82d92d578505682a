use Rattle.std.proofs.Common.{◌≡◌, ◌-◌, ◌∙◌, Bool, ap, arith, drop, take}
use Rattle.tb_chunk.specs.Promise.Col.{values}
use Rattle.tb_layout.specs.Cells.{kind_by_day}
use Rattle.tb_layout.specs.Widths.{widest_cell}
use Rattle.tb_layout.specs.declared.column_cells.Widest.{Widest}
use Rattle.tb_layout.proofs.Days.{widest_by_day}
use Rattle.tb_layout.proofs.WidthPieces.{widest_read}
use Rattle.tb_layout.proofs.column_cells.widest_cell.Goals as goal

pub returns : goal.returns
returns c =
    let column = c.args.column.now in
    let rows = take (c.args.end - c.args.start) (drop c.args.start (values column)) in
    let widest = widest_cell c.args.line (kind_by_day c.is_day.result) rows in
    let read = widest_read c.args.line (kind_by_day c.is_day.result) (λ (w : Widest). w.width) rows _ c.with_values.new.state c.with_values.ensures in
    let all : c.with_values.new.state.width ≡ widest = omega (arith, read) in
    all
    ∙ ap (λ (b : Bool). widest_cell c.args.line (kind_by_day b) rows) c.is_day.ensures
    ∙ widest_by_day c.args.line column.kind rows
