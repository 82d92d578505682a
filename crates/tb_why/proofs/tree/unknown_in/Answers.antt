use Rattle.tb_tree.specs.View.{item_view}
use Rattle.tb_request.specs.Promise.Members.{known_views, names_of}
use Rattle.tb_why.proofs.Walks.{unknown_in-object}
use Rattle.tb_why.proofs.tree.unknown_in.Goals as goal

pub loop-name-init : goal.loop-name-init
loop-name-init c = let h = unknown_in-object (names_of (known_views c.args.known.now)) (item_view c.args.object) _ c.in_ok-members.ensures in cc
