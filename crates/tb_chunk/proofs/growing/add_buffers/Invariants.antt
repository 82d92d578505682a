use Rattle.std.proofs.Common.{◌≡◌, ◌++◌, [], take}
use Rattle.tb_chunk.proofs.growing.add_buffers.Given as goal

abbrev pub invariant-loop-number : goal.invariant-loop-number
invariant-loop-number g l = record {
  none : g.C.Chunk.shown l.chunk ≡ [];
  views : g.C.Chunk.views l.chunk ≡ g.C.Chunk.views l.initial.chunk;
  buffers : g.C.Chunk.buffers l.chunk ≡ g.C.Chunk.buffers l.initial.chunk ++ take l.number (g.C.Chunk.buffers l.other);
}
