use Rattle.std.proofs.Common.{◌≡◌, ◌≤◌, ◌-◌, ◌∙◌, ap, arith, drop, length, min, subst, sym, take}
use Rattle.std.proofs.lemmas.List.{length-drop, take_min}
use Rattle.tb_chunk.specs.Promise.Col.{Col, values}
use Rattle.tb_layout.specs.Widths.{widest_cell}
use Rattle.tb_pieces.specs.declared.pieces.TheConstants.{ROWS_OF_A_PIECE}
use Rattle.tb_layout.proofs.measured.piece_width.Goals as goal

pub widest_cell-requires : goal.widest_cell-requires
widest_cell-requires c = record {
  order = c.rows_of_piece-start.ensures.order;
  within = subst (λ (k : Col). c.rows_of_piece-start.result.1 ≤ length (values k)) (sym c.new.ensures) (omega (arith, c.rows_of_piece-start.ensures.end, c.len.ensures.len));
}

pub returns : goal.returns
returns c =
    let column = c.args.column.now in
    let vs = values column in
    let start = c.rows_of_piece-start.result.0 in
    let count = c.rows_of_piece-start.result.1 - start in
    let rest = drop start vs in
    let widest = widest_cell c.args.line column.kind in
    let rows : count ≡ min ROWS_OF_A_PIECE (length rest) = omega (arith, c.rows_of_piece-start.ensures.count, length-drop start vs, c.len.ensures.len) in
    c.widest_cell.ensures
    ∙ ap (λ (k : Col). widest_cell c.args.line k.kind (take count (drop start (values k)))) c.new.ensures
    ∙ ap (λ n. widest (take n rest)) rows
    ∙ ap widest (take_min ROWS_OF_A_PIECE rest)
    ∙ ap (λ s. widest (take ROWS_OF_A_PIECE (drop s vs))) c.rows_of_piece-start.ensures.start
