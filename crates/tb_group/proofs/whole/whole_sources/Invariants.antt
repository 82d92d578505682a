use Rattle.std.proofs.Common.{◌≡◌, take}
use Rattle.tb_group.specs.Asked.{asked_list}
use Rattle.tb_group.proofs.whole.whole_sources.Given as goal

abbrev pub invariant-loop-place : goal.invariant-loop-place
invariant-loop-place l = asked_list l.whole.items ≡ asked_list (take l.place l.made)
