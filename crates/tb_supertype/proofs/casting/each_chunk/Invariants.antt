use Rattle.std.proofs.Common.{◌≡◌, map, take}
use Rattle.tb_value.specs.SeeKind.{kind_of}
use Rattle.tb_supertype.specs.Columns.{cast_values}
use Rattle.tb_supertype.proofs.casting.each_chunk.Given as goal

abbrev pub invariant-loop-column : goal.invariant-loop-column
invariant-loop-column g l = map g.C.Chunk.shown l.chunks.items ≡ map (λ c. cast_values (kind_of l.dtype) c.now) (take l.column-index l.columns)
