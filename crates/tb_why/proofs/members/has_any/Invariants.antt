use Rattle.std.proofs.Common.{◌≡◌, drop}
use Rattle.tb_tree.specs.View.{item_view}
use Rattle.tb_request.specs.Promise.Members.{known_views}
use Rattle.tb_why.specs.Members.{has_any}
use Rattle.tb_why.proofs.members.has_any.Given as goal

abbrev pub invariant-loop-one : goal.invariant-loop-one
invariant-loop-one l = has_any (known_views l.known) (item_view l.object) ≡ has_any (known_views (drop l.one-index l.known)) (item_view l.object)
