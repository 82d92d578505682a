use Rattle.serde_json.specs.Find.{as_str}
use Rattle.tb_json.proofs.LentValues.{ItemsWalk}
use Rattle.tb_request.proofs.members.texts_of.Given as goal

abbrev pub invariant-loop-i : goal.invariant-loop-i
invariant-loop-i l = ItemsWalk as_str l.items l.texts.items l.i
