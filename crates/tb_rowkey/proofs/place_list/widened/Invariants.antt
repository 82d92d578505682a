use Rattle.std.proofs.Common.{◌≡◌, take}
use Rattle.tb_rowkey.proofs.place_list.widened.Given as goal

abbrev pub invariant-loop-place : goal.invariant-loop-place
invariant-loop-place l = l.wide.items ≡ take l.place-index l.narrow
