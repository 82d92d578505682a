use Rattle.std.proofs.Common.{◌≡◌, Option, None, List, map, take}
use Rattle.tb_cell.specs.Shown.{or_null}
use Rattle.tb_view.specs.declared.view.View.{View}
use Rattle.tb_chunk.proofs.cells.CellsChunk.copy.Given as goal

abbrev pub invariant-loop-row : goal.invariant-loop-row
invariant-loop-row g l = record {
  same : map (or_null g.N.Cell.shows) l.cells ≡ map (or_null g.N.Cell.shows) (take l.row l.self);
  views : ◌≡◌ {A = List (Option View)} (map (λ _. None) l.cells) (map (λ _. None) (take l.row l.self));
}
