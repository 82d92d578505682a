use Rattle.serde_json.specs.Find.{as_bool}
use Rattle.tb_json.proofs.LentValues.{ItemsWalk}
use Rattle.tb_request.proofs.members.truths_of.Given as goal

abbrev pub invariant-loop-i : goal.invariant-loop-i
invariant-loop-i l = ItemsWalk as_bool l.items l.truths.items l.i
