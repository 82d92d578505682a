use Rattle.std.proofs.Common.{◌≡◌, map}
use Rattle.std.specs.List.{range_with_len}
use Rattle.tb_pool.specs.Portions.{portion_of}
use Rattle.tb_pool.proofs.cuts.portions.Given as goal

abbrev pub invariant-loop-i : goal.invariant-loop-i
invariant-loop-i l = l.all.items ≡ map (portion_of l.len l.count) (range_with_len 0 l.i)
