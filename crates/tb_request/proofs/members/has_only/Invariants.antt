use Rattle.std.proofs.Common.{◌≡◌}
use Rattle.tb_tree.specs.View.{view}
use Rattle.tb_json.specs.Promise.Lists.{has_only}
use Rattle.tb_json.proofs.LentValues.{all_known}
use Rattle.tb_request.specs.Promise.Members.{known_views, names_of}
use Rattle.tb_request.proofs.members.has_only.Given as goal

abbrev pub invariant-loop-name : goal.invariant-loop-name
invariant-loop-name l = has_only (names_of (known_views l.known)) (view l.value) ≡ all_known (names_of (known_views l.known)) l.name-iterator
