use Rattle.std.proofs.Common.{◌≡◌, drop}
use Rattle.tb_tree.specs.View.{item_view}
use Rattle.tb_request.specs.Promise.Members.{known_views}
use Rattle.tb_why.specs.Members.{each_known}
use Rattle.tb_why.proofs.members.each_known.Given as goal

abbrev pub invariant-loop-one : goal.invariant-loop-one
invariant-loop-one l = each_known (known_views l.known) (item_view l.object) ≡ each_known (known_views (drop l.one-index l.known)) (item_view l.object)
