use Rattle.std.proofs.Common.{◌≡◌, ◌+◌, length, map, drop}
use Rattle.tb_chunk.specs.Promise.Col.{concatenation}
use Rattle.tb_chunk.proofs.chunks.rows_in.Given as goal

abbrev pub invariant-loop-chunk : goal.invariant-loop-chunk
invariant-loop-chunk g l = l.rows + length (concatenation (map g.C.Chunk.shown (drop l.chunk-index l.chunks))) ≡ length (concatenation (map g.C.Chunk.shown l.chunks))
