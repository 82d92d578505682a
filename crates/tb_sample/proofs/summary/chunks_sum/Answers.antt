use Rattle.std.proofs.Common.{arith}
use Rattle.std.proofs.lemmas.Int.{ints}
use Rattle.tb_sample.proofs.Totals.{length_of_more, length_within, total_of_more}
use Rattle.tb_sample.proofs.summary.chunks_sum.Goals as goal

pub cells_sum-sum-requires : goal.cells_sum-sum-requires
cells_sum-sum-requires c =
    let long = length_of_more c.args.chunks.now c.loop-chunk.chunk-index c.chunk-item.result c.loop-chunk-test.true c.chunk-item.is in
    let within = length_within c.args.chunks.now c.loop-chunk.chunk-index c.chunk-item.result c.loop-chunk-test.true c.chunk-item.is in
    omega (arith, long, within, c.requires)

pub overflow_add-sum : goal.overflow_add-sum
overflow_add-sum c =
    let long = length_of_more c.args.chunks.now c.loop-chunk.chunk-index c.chunk-item.result c.loop-chunk-test.true c.chunk-item.is in
    let within = length_within c.args.chunks.now c.loop-chunk.chunk-index c.chunk-item.result c.loop-chunk-test.true c.chunk-item.is in
    omega (arith, ints, long, within, c.requires)

pub loop-chunk-preserved : goal.loop-chunk-preserved
loop-chunk-preserved c =
    let more = total_of_more c.args.chunks.now c.loop-chunk.chunk-index c.chunk-item.result c.loop-chunk-test.true c.chunk-item.is in
    let long = length_of_more c.args.chunks.now c.loop-chunk.chunk-index c.chunk-item.result c.loop-chunk-test.true c.chunk-item.is in
    let within = length_within c.args.chunks.now c.loop-chunk.chunk-index c.chunk-item.result c.loop-chunk-test.true c.chunk-item.is in
    let so_far = c.loop-chunk.invariant in
    let here = c.cells_sum-sum.ensures in
    let few = c.requires in
    record {
      sum = omega (arith, ints);
      near = (omega (arith, ints), omega (arith, ints));
    }
