use Rattle.std.proofs.Common.{arith}
use Rattle.std.proofs.lemmas.Int.{ints}
use Rattle.tb_sample.proofs.Totals.{total_more}
use Rattle.tb_sample.proofs.summary.cells_sum.Goals as goal

pub loop-row-preserved : goal.loop-row-preserved
loop-row-preserved c =
    let more = total_more c.args.cells.now c.loop-row.row (omega arith) in
    let so_far = c.loop-row.invariant in
    let number = c.number_at.ensures in
    let fits = c.number_at.type_inv in
    let cast = c.from-sum.ensures in
    record {
      sum = omega (arith, ints);
      near = (omega (arith, ints), omega (arith, ints));
    }
