use Rattle.std.proofs.Common.{◌∙◌, Some, ap, map}
use Rattle.tb_value.proofs.Loops.{map-map}
use Rattle.tb_cell.specs.Shown.{or_null}
use Rattle.tb_agg.proofs.made.CellsSumChunk.of_sums.Goals as goal

pub returns-in-Some : goal.returns-in-Some
returns-in-Some g c =
    let made = rw c.in-Some.is at c.in_ok-cells.ensures in
    (made.0, ap (map (or_null g.N.Cell.shows)) c.from_vec.ensures ∙ map-map (or_null g.N.Cell.shows) Some c.in-Some.cells.items ∙ made.1)
