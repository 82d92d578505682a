use Rattle.std.proofs.Common.{arith, map, pos, refl}
use Rattle.std.proofs.lemmas.List.{length-map}
use Rattle.tb_value.specs.Promise.Datum.{int}
use Rattle.tb_value.specs.Promise.Kind as kind
use Rattle.tb_chunk.proofs.OneChunk.{one_chunk_is_column}
use Rattle.tb_agg.proofs.Keeping.{counts_typed}
use Rattle.tb_agg.proofs.kept.counted_column.Goals as goal

pub from_parts-requires-clause-column : goal.from_parts-requires-clause-column
from_parts-requires-clause-column c =
    let counts = c.args.counts.items in
    one_chunk_is_column _ kind.uint32 (map (λ n. int (pos n)) counts) (omega (arith, length-map counts (λ n. int (pos n)), c.requires.few))
    (counts_typed counts c.requires.small) c.count_type.ensures c.in_ok-chunks.ensures.lists refl
