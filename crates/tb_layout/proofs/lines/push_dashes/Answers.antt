use Rattle.std.proofs.Common.{Some, arith}
use Rattle.tb_layout.specs.Promise.Lines.{dashes_in}
use Rattle.tb_layout.proofs.Sides.{cut_dashes, cut_line}
use Rattle.tb_layout.proofs.lines.push_dashes.Goals as goal

pub loop-k-preserved : goal.loop-k-preserved
loop-k-preserved c =
    let g = c.args.grid.now in
    cut_dashes g.line g.columns.now g.widths.items c.loop-k.k c.index.result.now (c.args.text.now.items, Some g.line) (c.loop-k.text.items, c.loop-k.room) _ _
    g.wide c.loop-k-test.true c.index.ensures c.in_ok-room.ensures c.in_ok-room-2.ensures c.loop-k.invariant

pub returns : goal.returns
returns c =
    let g = c.args.grid.now in
    cut_line (dashes_in g.line) g.columns.now c.loop-k.k g.line c.args.text.now.items (c.loop-k.text.items, c.loop-k.room) (omega arith) c.loop-k.invariant
