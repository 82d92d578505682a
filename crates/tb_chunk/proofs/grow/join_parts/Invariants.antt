use Rattle.std.proofs.Common.{◌≡◌, ◌+◌, ◌≤◌, ◌++◌, length, take, drop, map}
use Rattle.tb_chunk.specs.Promise.Col.{concatenation}
use Rattle.tb_view.specs.Held.{AreHeld}
use Rattle.tb_view.specs.ViewArrays.{AreBases, all_buffers, base_of, moved_views, view_arrays_of}
use Rattle.tb_chunk.proofs.grow.join_parts.Given as goal

abbrev pub invariant-loop-chunk : goal.invariant-loop-chunk
invariant-loop-chunk g l =
    let rs = view_arrays_of g.C.Chunk.views g.C.Chunk.buffers l.chunks in
    record {
      same : g.C.Chunk.shown l.out.chunk ++ take l.left (drop l.skip (concatenation (map g.C.Chunk.shown (drop l.chunk l.chunks)))) ≡ take l.len (drop l.start (concatenation (map g.C.Chunk.shown l.chunks)));
      within : l.skip + l.left ≤ length (concatenation (map g.C.Chunk.shown (drop l.chunk l.chunks)));
      room : length (g.C.Chunk.shown l.out.chunk) + l.left ≡ l.len;
      held : AreHeld (g.C.Chunk.buffers l.out.chunk) l.out.bases.items (map g.C.Chunk.buffers l.chunks);
      views : g.C.Chunk.views l.out.chunk ++ take l.left (drop l.skip (moved_views (base_of rs l.chunk) (drop l.chunk rs))) ≡ take l.len (drop l.start (moved_views 0 rs));
      buffers : g.C.Chunk.buffers l.out.chunk ≡ all_buffers rs;
      bases : AreBases l.out.bases.items rs;
    }
