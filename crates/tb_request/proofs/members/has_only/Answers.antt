use Rattle.tb_tree.specs.View.{view}
use Rattle.tb_json.proofs.LentValues.{has_only-object}
use Rattle.tb_request.specs.Promise.Members.{known_views, names_of}
use Rattle.tb_request.proofs.members.has_only.Goals as goal

pub loop-name-init : goal.loop-name-init
loop-name-init c = let h = has_only-object (names_of (known_views c.args.known.now)) (view c.args.value.now) _ c.in-Some.ensures in cc
