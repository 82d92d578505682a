use Rattle.std.proofs.Common.{◌≡◌, ◌<◌, ◌-◌, ◌++◌, ◌∙◌, List, ap, arith, length, subst, sym}
use Rattle.std.specs.List.{All}
use Rattle.tb_chunk.specs.Promise.Col.{Col, values}
use Rattle.tb_frame.specs.Promise.Table.{table_of}
use Rattle.tb_pieces.specs.Rows.{rows_bytes}
use Rattle.tb_layout.specs.Laid.{row_bytes}
use Rattle.tb_pieces.proofs.RowPieces.{rows_more}
use Rattle.tb_layout.proofs.pieces.rows_text.Goals as goal

pub push_row_line-requires : goal.push_row_line-requires
push_row_line-requires c =
    let same = c.deref.ensures.value ∙ c.in_ok-columns.ensures in
    record { columns = same; row = subst (λ (cs : List Col). All (λ (k : Col). c.loop-row.row < length (values k)) cs) (sym same) (λ i d low. omega (arith, c.loop-row-test.true, c.requires.within i d low)) }

pub loop-row-init : goal.loop-row-init
loop-row-init c = record { from = omega arith; to = c.requires.order; text = let none : c.args.start - c.args.start ≡ 0 = omega arith in rw none c.new-text.ensures.items }

pub loop-row-preserved : goal.loop-row-preserved
loop-row-preserved c =
    let g = c.args.grid.now in
    record {
      from = omega (arith, c.loop-row.invariant.from);
      to = omega (arith, c.loop-row-test.true);
      text = rows_more (row_bytes g.line (table_of g.columns.now)) c.args.start c.loop-row.row _ _ c.loop-row.invariant.from
          (subst (λ (cs : List Col). c.push_row_line.new.text.items ≡ c.loop-row.text.items ++ row_bytes g.line (table_of cs) c.loop-row.row) (c.deref.ensures.value ∙ c.in_ok-columns.ensures) c.in_ok-push_row_line.ensures)
          c.loop-row.invariant.text;
    }

pub returns : goal.returns
returns c =
    let g = c.args.grid.now in
    let end : c.loop-row.row ≡ c.args.end = omega (arith, c.loop-row.invariant.to, c.loop-row-test.false) in
    c.loop-row.invariant.text ∙ ap (λ n. rows_bytes (row_bytes g.line (table_of g.columns.now)) c.args.start (n - c.args.start)) end
