use Rattle.std.proofs.Common.{arith, rules, of_calls, ◌<◌}
use Rattle.std.specs.Prelude.{nat_le}
use Rattle.std.specs.List.{sum}
use Rattle.std.proofs.lemmas.Fn.{always_returns_same}
use Rattle.tb_frame.specs.Frame.{lens}
use Rattle.tb_gather.proofs.Starts.{sum-total, starts-parted, chunk-some, chunk-low, chunk-within}
use Rattle.tb_gather.proofs.ids.chunk_of.Goals as goal

pub overflow_sub-result : goal.overflow_sub-result
overflow_sub-result c =
    let ns = lens c.args.column.now in
    let some : c.args.row < sum ns = omega (arith, c.requires.row, sum-total c.args.column.now.chunks) in
    let point = c.partition_point-after.ensures.partitioned (λ s. nat_le s c.args.row) (always_returns_same _ _ _ (λ a r f k. search (rules, of_calls))) (starts-parted ns c.args.starts.now c.args.row c.requires.starts) in
    omega (arith, chunk-some ns c.args.starts.now c.requires.starts c.args.row c.partition_point-after.result some c.partition_point-after.ensures.bound point)

pub returns : goal.returns
returns c =
    let ns = lens c.args.column.now in
    let starts = c.args.starts.now in
    let row = c.args.row in
    let i = c.partition_point-after.result in
    let some : row < sum ns = omega (arith, c.requires.row, sum-total c.args.column.now.chunks) in
    let point = c.partition_point-after.ensures.partitioned (λ s. nat_le s row) (always_returns_same _ _ _ (λ a r f k. search (rules, of_calls))) (starts-parted ns starts row c.requires.starts) in
    let bound = c.partition_point-after.ensures.bound in
    let positive = chunk-some ns starts c.requires.starts row i some bound point in
    let low = chunk-low ns starts c.requires.starts row i some bound point in
    let within = chunk-within ns starts c.requires.starts row i some bound point in
    record { start = low; named = (omega (arith, positive, bound, c.requires.starts.whole), omega (arith, low, within)) }
