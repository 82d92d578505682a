use Rattle.std.proofs.Common.{◌≡◌, ◌+◌, length, map, drop}
use Rattle.tb_chunk.specs.Promise.Col.{concatenation}
use Rattle.tb_cell.specs.Promise.Flag.{nulls}
use Rattle.tb_chunk.proofs.chunks.nulls_in.Given as goal

abbrev pub invariant-loop-chunk : goal.invariant-loop-chunk
invariant-loop-chunk g l = l.nulls + length (nulls (concatenation (map g.C.Chunk.shown (drop l.chunk-index l.chunks)))) ≡ length (nulls (concatenation (map g.C.Chunk.shown l.chunks)))
