use Rattle.tb_group.specs.Once.{AreOnceTo}
use Rattle.tb_group.proofs.once.made_once.Given as goal

-- those so far
abbrev pub invariant-loop-one : goal.invariant-loop-one
invariant-loop-one l = AreOnceTo l.asked l.one-index l.made.items l.seats.items
