use Rattle.std.proofs.Common.{◌↔◌, drop}
use Rattle.std.specs.List.{All}
use Rattle.tb_value.specs.SeeKind.{kind_of}
use Rattle.tb_value.specs.Promise.Typed.{HasType}
use Rattle.tb_chunk.proofs.arrange.is_chunk_of.Given as goal

-- the values that are left decide
abbrev pub invariant-loop-row : goal.invariant-loop-row
invariant-loop-row g l = All (HasType (kind_of l.dtype)) (g.C.Chunk.shown l.chunk) ↔ All (HasType (kind_of l.dtype)) (drop l.row (g.C.Chunk.shown l.chunk))
