use Rattle.std.proofs.Common.{◌≡◌, map, take}
use Rattle.tb_chunk.specs.ViewArrays.{view_arrays_of}
use Rattle.tb_gather.specs.Gathered.{value_of_id}
use Rattle.tb_gather.specs.Kept.{buffer_at, used_places, view_among}
use Rattle.tb_gather.proofs.used.gather_used.Given as goal

abbrev pub invariant-loop-id : goal.invariant-loop-id
invariant-loop-id g l = record {
  shown : g.C.Chunk.shown l.out ≡ map (value_of_id (map g.C.Chunk.shown l.chunks)) (take l.id-index l.ids);
  views : g.C.Chunk.views l.out ≡ map (view_among (view_arrays_of g.C.Chunk.views g.C.Chunk.buffers l.chunks) (used_places (view_arrays_of g.C.Chunk.views g.C.Chunk.buffers l.chunks) l.ids)) (take l.id-index l.ids);
  buffers : g.C.Chunk.buffers l.out ≡ map (buffer_at (view_arrays_of g.C.Chunk.views g.C.Chunk.buffers l.chunks)) (used_places (view_arrays_of g.C.Chunk.views g.C.Chunk.buffers l.chunks) l.ids);
}
