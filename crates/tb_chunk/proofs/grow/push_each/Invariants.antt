use Rattle.std.proofs.Common.{◌≡◌, ◌++◌, [], get_or, map, take, drop}
use Rattle.tb_view.specs.Held.{AreHeld}
use Rattle.tb_view.specs.Moved.{moved_view}
use Rattle.tb_chunk.proofs.grow.push_each.Given as goal

abbrev pub invariant-loop-i : goal.invariant-loop-i
invariant-loop-i g l = record {
  same : g.C.Chunk.shown l.out.chunk ≡ g.C.Chunk.shown l.initial.out.chunk ++ take l.i (drop l.from (get_or (map g.C.Chunk.shown l.chunks) l.chunk []));
  held : AreHeld (g.C.Chunk.buffers l.out.chunk) l.out.bases.items (map g.C.Chunk.buffers l.chunks);
  views : g.C.Chunk.views l.out.chunk ≡ g.C.Chunk.views l.initial.out.chunk
      ++ map (moved_view (get_or l.initial.out.bases.items l.chunk 0)) (take l.i (drop l.from (get_or (map g.C.Chunk.views l.chunks) l.chunk [])));
  buffers : g.C.Chunk.buffers l.out.chunk ≡ g.C.Chunk.buffers l.initial.out.chunk;
  bases : l.out.bases.items ≡ l.initial.out.bases.items;
}
