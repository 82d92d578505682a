use Rattle.std.proofs.Common.{◌≡◌, ◌<◌, ℕ, [], get_or, map, take}
use Rattle.tb_view.specs.Held.{AreHeld}
use Rattle.tb_view.specs.ViewArrays.{all_buffers, base_of, view_arrays_of}
use Rattle.tb_chunk.proofs.growing.Growing.over.Given as goal

abbrev pub invariant-loop-other : goal.invariant-loop-other
invariant-loop-other g l = record {
  none : g.C.Chunk.shown l.chunk ≡ [];
  held : AreHeld (g.C.Chunk.buffers l.chunk) l.bases.items (map g.C.Chunk.buffers (take l.other-index l.chunks));
  views : g.C.Chunk.views l.chunk ≡ [];
  buffers : g.C.Chunk.buffers l.chunk ≡ all_buffers (take l.other-index (view_arrays_of g.C.Chunk.views g.C.Chunk.buffers l.chunks));
  bases : (k : ℕ) → k < l.other-index → get_or l.bases.items k 0 ≡ base_of (view_arrays_of g.C.Chunk.views g.C.Chunk.buffers l.chunks) k;
}
