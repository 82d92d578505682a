use Rattle.std.proofs.Common.{◌≡◌, map, take}
use Rattle.tb_view.specs.ViewArrays.{view_arrays_of}
use Rattle.tb_chunk.proofs.chunks.copy_chunks.Given as goal

abbrev pub invariant-loop-chunk : goal.invariant-loop-chunk
invariant-loop-chunk g l = record {
  shown : map g.C.Chunk.shown l.copies.items ≡ map g.C.Chunk.shown (take l.chunk-index l.chunks);
  view_arrays : view_arrays_of g.C.Chunk.views g.C.Chunk.buffers l.copies.items ≡ view_arrays_of g.C.Chunk.views g.C.Chunk.buffers (take l.chunk-index l.chunks);
}
