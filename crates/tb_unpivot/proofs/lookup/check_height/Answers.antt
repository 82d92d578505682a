use Rattle.std.proofs.Common.{◌<◌, ◌^◌, arith}
use Rattle.std.proofs.lemmas.Nat.{mul-lt}
use Rattle.tb_unpivot.proofs.lookup.check_height.Goals as goal

pub overflow_mul-rows : goal.overflow_mul-rows
overflow_mul-rows c =
    let rows : c.args.rows < 2 ^ 64 = omega arith in
    let columns : c.args.columns < 2 ^ 64 = omega arith in
    omega (arith, mul-lt c.args.rows c.args.columns (2 ^ 64) (2 ^ 64) rows columns)
