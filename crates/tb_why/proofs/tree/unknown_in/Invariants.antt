use Rattle.std.proofs.Common.{◌≡◌}
use Rattle.tb_tree.specs.View.{item_view}
use Rattle.tb_request.specs.Promise.Members.{known_views, names_of}
use Rattle.tb_why.specs.Members.{unknown_in}
use Rattle.tb_why.proofs.Walks.{unknown_from}
use Rattle.tb_why.proofs.tree.unknown_in.Given as goal

abbrev pub invariant-loop-name : goal.invariant-loop-name
invariant-loop-name l = unknown_in (names_of (known_views l.known)) (item_view l.object) ≡ unknown_from (names_of (known_views l.known)) l.name-iterator
