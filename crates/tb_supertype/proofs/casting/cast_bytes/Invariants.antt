use Rattle.std.proofs.Common.{◌≡◌, map, take}
use Rattle.tb_value.specs.Promise.Datum.{binary}
use Rattle.tb_value.specs.Promise.Kind as kind
use Rattle.tb_chunk.specs.Chunk.{or_null}
use Rattle.tb_chunk.specs.Promise.Col.{values}
use Rattle.tb_supertype.specs.Promise.Cast.{cast}
use Rattle.tb_supertype.proofs.casting.cast_bytes.Given as goal

abbrev pub invariant-loop-row : goal.invariant-loop-row
invariant-loop-row l = map (or_null binary) l.builder.rows ≡ map (cast kind.binary) (take l.row (values l.column))
