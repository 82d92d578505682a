use Rattle.std.proofs.Common.{◌≡◌, ◌-◌, ◌++◌, map}
use Rattle.std.specs.List.{range_with_len}
use Rattle.tb_value.specs.Promise.Pairs.{both}
use Rattle.tb_merge.proofs.pushing.push_matched.Given as goal

-- the pairs of the rows so far stand behind the others
abbrev pub invariant-loop-right : goal.invariant-loop-right
invariant-loop-right l = l.pairs.items ≡ l.initial.pairs.items ++ map (both l.left) (range_with_len l.start (l.right - l.start))
