use Rattle.std.proofs.Common.{◌≡◌, ◌∙◌, ◌++◌, ap, map, take}
use Rattle.std.proofs.lemmas.List.{take-map}
use Rattle.tb_cell.specs.Shown.{or_null}
use Rattle.tb_chunk.proofs.PlainRows.{no_views_same}
use Rattle.tb_chunk.proofs.cells.CellsChunk.copy.Goals as goal

pub loop-row-init : goal.loop-row-init
loop-row-init g c =
    let f = or_null g.N.Cell.shows in
    let n = c.in_ok-block.block in
    let same : map f c.append_values.new.self ≡ map f (take n c.args.self.now) =
    c.in_ok-block.ensures.shown ∙ ap (λ cs. map f cs ++ take n (map f c.args.self.now)) c.in_ok-cells.ensures ∙ take-map f n c.args.self.now in
    record {
      same = same;
      views = no_views_same f c.append_values.new.self (take n c.args.self.now) same;
    }
