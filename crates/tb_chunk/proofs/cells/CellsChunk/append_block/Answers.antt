use Rattle.std.proofs.Common.{arith}
use Rattle.std.proofs.lemmas.List.{length-map}
use Rattle.tb_cell.specs.Shown.{or_null}
use Rattle.tb_chunk.proofs.PlainRows.{all_no_views, no_views_more}
use Rattle.tb_chunk.proofs.cells.CellsChunk.append_block.Goals as goal

pub append_values-requires-clause-room : goal.append_values-requires-clause-room
append_values-requires-clause-room g c = omega (arith, c.requires.room, length-map c.args.self.now (or_null g.N.Cell.shows))

pub append_values-requires-clause-within : goal.append_values-requires-clause-within
append_values-requires-clause-within g c = omega (arith, c.requires.within, length-map c.args.other.now (or_null g.N.Cell.shows))

pub returns-clause-views : goal.returns-clause-views
returns-clause-views g c =
    no_views_more (or_null g.N.Cell.shows) c.append_values.new.self c.args.self.now c.args.other.now c.args.from c.in_ok-block.block
    (omega (arith, c.requires.within, c.in_ok-block.ensures.count, length-map c.args.other.now (or_null g.N.Cell.shows))) c.in_ok-block.ensures.shown

pub returns-clause-none : goal.returns-clause-none
returns-clause-none g c = all_no_views c.args.other.now c.args.from c.in_ok-block.block
