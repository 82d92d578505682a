use Rattle.std.proofs.Common.{◌≡◌, ◌+◌, ◌≤◌, length, drop}
use Rattle.tb_view.specs.ViewArrays.{all_buffers, view_arrays_of}
use Rattle.tb_chunk.proofs.arrange.have_few_buffers.Given as goal

-- what is left of the room
abbrev pub invariant-loop-chunk : goal.invariant-loop-chunk
invariant-loop-chunk g l = (length (all_buffers (view_arrays_of g.C.Chunk.views g.C.Chunk.buffers l.chunks)) + l.room ≡ length (all_buffers (view_arrays_of g.C.Chunk.views g.C.Chunk.buffers (drop l.chunk-index l.chunks))) + 4294967295) × (l.room ≤ 4294967295)
