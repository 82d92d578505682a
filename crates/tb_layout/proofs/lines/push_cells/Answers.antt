use Rattle.std.proofs.Common.{◌∙◌, List, Some, ap, arith, map, slice_index_or, sym}
use Rattle.tb_value.specs.Promise.Datum.{null}
use Rattle.tb_chunk.specs.Promise.Col.{Col, values}
use Rattle.tb_frame.specs.Promise.Table.{table_of}
use Rattle.tb_layout.specs.Cells.{padded_value}
use Rattle.tb_layout.specs.Promise.Lines.{cell_in, column_width}
use Rattle.tb_layout.proofs.Sides.{cut_line, cut_side, width_at}
use Rattle.tb_layout.proofs.lines.push_cells.Goals as goal

pub loop-k-preserved : goal.loop-k-preserved
loop-k-preserved c =
    let g = c.args.grid.now in
    let columns = c.args.columns.now in
    let column = c.index-columns-k.result in
    let value = slice_index_or (values column) c.args.row null in
    let widths = g.wide ∙ ap (λ (cs : List Col). map (column_width g.line) (table_of cs)) (sym c.requires.columns) in
    let wide = width_at g.line columns g.widths.items c.loop-k.k column c.index.result.now widths c.loop-k-test.true c.index-columns-k.is c.index.ensures in
    cut_side (cell_in g.line c.args.row) columns c.loop-k.k column (c.args.text.now.items, Some g.line) (c.loop-k.text.items, c.loop-k.room) _ (padded_value column.kind c.index.result.now value) c.loop-k-test.true c.index-columns-k.is
    (ap (λ w. padded_value column.kind w value) wide)
    c.in_ok-room.ensures c.loop-k.invariant

pub returns : goal.returns
returns c =
    let g = c.args.grid.now in
    cut_line (cell_in g.line c.args.row) c.args.columns.now c.loop-k.k g.line c.args.text.now.items (c.loop-k.text.items, c.loop-k.room) (omega arith) c.loop-k.invariant
