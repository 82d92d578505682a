use Rattle.std.proofs.Common.{◌≡◌, map, take}
use Rattle.tb_value.specs.Promise.Datum.{binary}
use Rattle.tb_value.specs.Promise.Kind as kind
use Rattle.tb_chunk.specs.Chunk.{or_null}
use Rattle.tb_build.specs.Plan.{codes_of}
use Rattle.tb_hash.specs.Promise.Hashing.{value_code}
use Rattle.tb_group.specs.Codes.{own_code}
use Rattle.tb_group.proofs.codes.row_codes.Given as goal

abbrev pub invariant-loop-row : goal.invariant-loop-row
invariant-loop-row l = codes_of own_code l.codes.items ≡ map (λ o. value_code kind.binary (or_null binary o)) (take l.row l.keys)
