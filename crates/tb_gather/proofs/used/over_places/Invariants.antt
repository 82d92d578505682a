use Rattle.std.proofs.Common.{◌≡◌, [], map, take}
use Rattle.tb_chunk.specs.ViewArrays.{view_arrays_of}
use Rattle.tb_gather.specs.Kept.{buffer_at}
use Rattle.tb_gather.proofs.used.over_places.Given as goal

abbrev pub invariant-loop-chunk : goal.invariant-loop-chunk
invariant-loop-chunk g l = record {
  shown : g.C.Chunk.shown l.out ≡ [];
  views : g.C.Chunk.views l.out ≡ [];
  buffers : g.C.Chunk.buffers l.out ≡ map (buffer_at (view_arrays_of g.C.Chunk.views g.C.Chunk.buffers l.chunks)) (take l.chunk-index l.places);
}
