use Rattle.std.proofs.Common.{◌↔◌, map, drop}
use Rattle.std.specs.List.{All}
use Rattle.tb_value.specs.SeeKind.{kind_of}
use Rattle.tb_value.specs.Promise.Typed.{HasType}
use Rattle.tb_chunk.specs.Promise.Col.{concatenation}
use Rattle.tb_chunk.proofs.arrange.are_chunks_of.Given as goal

-- the chunks that are left decide
abbrev pub invariant-loop-chunk : goal.invariant-loop-chunk
invariant-loop-chunk g l = All (HasType (kind_of l.dtype)) (concatenation (map g.C.Chunk.shown l.chunks)) ↔ All (HasType (kind_of l.dtype)) (concatenation (map g.C.Chunk.shown (drop l.chunk-index l.chunks)))
