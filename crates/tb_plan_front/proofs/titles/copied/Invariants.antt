use Rattle.std.proofs.Common.{◌≡◌, take}
use Rattle.tb_plan_front.proofs.titles.copied.Given as goal

abbrev pub invariant-loop-name : goal.invariant-loop-name
invariant-loop-name l = l.copies.items ≡ take l.name-index l.given
