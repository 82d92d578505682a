use Rattle.std.proofs.lemmas.List.{get_or_default}
use Rattle.std.proofs.Common.{Some, arith, get_or, ◌∙◌, ap, refl, false}
use Rattle.tb_layout.specs.Promise.Characters.{shown_text}
use Rattle.tb_layout.specs.Promise.Lines.{name_in, padded_cell}
use Rattle.tb_layout.proofs.Sides.{cut_line, cut_side, padded_same, width_at}
use Rattle.tb_layout.proofs.lines.push_names.Goals as goal

pub loop-k-preserved : goal.loop-k-preserved
loop-k-preserved c =
    let g = c.args.grid.now in
    let column = get_or g.columns.now c.loop-k.k c.index-grid-k.result in
    let is = get_or_default g.columns.now c.loop-k.k c.index-grid-k.result column c.loop-k-test.true in
    let wide = width_at g.line g.columns.now g.widths.items c.loop-k.k column c.index.result.now g.wide c.loop-k-test.true is c.index.ensures in
    cut_side (name_in g.line) g.columns.now c.loop-k.k column (c.args.text.now.items, Some g.line) (c.loop-k.text.items, c.loop-k.room) _ (padded_cell false c.index.result.now (shown_text c.as_str-name.result.now)) c.loop-k-test.true is
    (padded_same false false _ _ _ _ refl wide (ap shown_text (c.as_str-name.ensures ∙ c.name.ensures)))
    c.in_ok-room.ensures c.loop-k.invariant

pub returns : goal.returns
returns c =
    let g = c.args.grid.now in
    cut_line (name_in g.line) g.columns.now c.loop-k.k g.line c.args.text.now.items (c.loop-k.text.items, c.loop-k.room) (omega arith) c.loop-k.invariant
