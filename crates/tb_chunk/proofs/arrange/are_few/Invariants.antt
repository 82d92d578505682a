use Rattle.std.proofs.Common.{◌≡◌, ◌+◌, ◌≤◌, length, map, drop}
use Rattle.tb_value.specs.declared.limits.TheConstants.{MAX_ROWS}
use Rattle.tb_chunk.specs.Promise.Col.{concatenation}
use Rattle.tb_chunk.proofs.arrange.are_few.Given as goal

abbrev pub invariant-loop-chunk : goal.invariant-loop-chunk
invariant-loop-chunk g l = (length (concatenation (map g.C.Chunk.shown l.chunks)) + l.room ≡ length (concatenation (map g.C.Chunk.shown (drop l.chunk-index l.chunks))) + MAX_ROWS) × (l.room ≤ MAX_ROWS)
