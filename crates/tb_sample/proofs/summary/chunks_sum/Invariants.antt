use Rattle.std.proofs.Common.{◌≡◌, length, map, take}
use Rattle.tb_value.specs.Promise.Datum.{int}
use Rattle.tb_chunk.specs.Chunk.{or_null}
use Rattle.tb_chunk.specs.Promise.Col.{concatenation}
use Rattle.tb_agg.specs.Promise.Aggregates.{total}
use Rattle.tb_sample.specs.Bounds.{IsSumOf}
use Rattle.tb_sample.proofs.summary.chunks_sum.Given as goal

abbrev pub invariant-loop-chunk : goal.invariant-loop-chunk
invariant-loop-chunk l = record {
  sum : l.sum ≡ total (concatenation (map (λ c. map (or_null int) c) (take l.chunk-index l.chunks)));
  near : IsSumOf (length (concatenation (map (λ c. map (or_null int) c) (take l.chunk-index l.chunks)))) l.sum;
}
