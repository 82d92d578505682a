use Rattle.std.proofs.Common.{◌≡◌, map, take, drop}
use Rattle.std.specs.List.{All}
use Rattle.tb_chunk.specs.Promise.Col.{concatenation}
use Rattle.tb_cell.specs.Fits.{Fits}
use Rattle.tb_chunk.specs.Promise.Fresh.{fresh_view_arrays}
use Rattle.tb_chunk.specs.Made.{lists_of}
use Rattle.tb_view.specs.ViewArrays.{view_arrays_of}
use Rattle.tb_chunk.proofs.make.build.Given as goal

abbrev pub invariant-loop-list : goal.invariant-loop-list
invariant-loop-list g l = record {
  made : map g.C.Chunk.shown l.chunks.items ≡ lists_of (take l.list-index l.lists);
  view_arrays : view_arrays_of g.C.Chunk.views g.C.Chunk.buffers l.chunks.items ≡ fresh_view_arrays (lists_of (take l.list-index l.lists));
  left : All (Fits g.C.Chunk.kind) (concatenation (lists_of (drop l.list-index l.lists)));
}
