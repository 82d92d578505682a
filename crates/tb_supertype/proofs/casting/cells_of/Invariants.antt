use Rattle.std.proofs.Common.{◌≡◌, map, take}
use Rattle.tb_value.specs.SeeKind.{kind_of}
use Rattle.tb_chunk.specs.Chunk.{or_null}
use Rattle.tb_chunk.specs.Promise.Col.{values}
use Rattle.tb_supertype.specs.Promise.Cast.{cast}
use Rattle.tb_supertype.proofs.casting.cells_of.Given as goal

abbrev pub invariant-loop-row : goal.invariant-loop-row
invariant-loop-row g l = map (or_null g.N.Cell.shows) l.cells ≡ map (cast (kind_of l.dtype)) (take l.row (values l.column))
