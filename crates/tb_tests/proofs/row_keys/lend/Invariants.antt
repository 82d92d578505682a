use Rattle.std.proofs.Common.{◌≡◌, map, take}
use Rattle.tb_tests.proofs.row_keys.lend.Given as goal

abbrev pub invariant-loop-column : goal.invariant-loop-column
invariant-loop-column l = map (λ c. c.now) l.lent.items ≡ take l.column-index l.columns
