use Rattle.std.proofs.Common.{◌≡◌, ◌++◌, map, take}
use Rattle.tb_agg.specs.Running.{sum_so_far}
use Rattle.tb_agg.proofs.sums.push_narrow.Given as goal

abbrev pub invariant-loop-sum : goal.invariant-loop-sum
invariant-loop-sum l = map sum_so_far l.wide.items ≡ map sum_so_far l.initial.wide.items ++ take l.sum-index l.sums
