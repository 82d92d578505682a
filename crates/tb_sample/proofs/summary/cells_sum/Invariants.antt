use Rattle.std.proofs.Common.{◌≡◌, map, take}
use Rattle.tb_value.specs.Promise.Datum.{int}
use Rattle.tb_chunk.specs.Chunk.{or_null}
use Rattle.tb_agg.specs.Promise.Aggregates.{total}
use Rattle.tb_sample.specs.Bounds.{IsSumOf}
use Rattle.tb_sample.proofs.summary.cells_sum.Given as goal

abbrev pub invariant-loop-row : goal.invariant-loop-row
invariant-loop-row l = record {
  sum : l.sum ≡ total (map (or_null int) (take l.row l.cells));
  near : IsSumOf l.row l.sum;
}
