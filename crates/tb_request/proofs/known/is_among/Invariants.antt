use Rattle.std.proofs.Common.{◌≡◌, drop}
use Rattle.tb_json.specs.Promise.Lists.{is_among}
use Rattle.tb_request.specs.Promise.Members.{known_views, names_of}
use Rattle.tb_request.proofs.known.is_among.Given as goal

abbrev pub invariant-loop-one : goal.invariant-loop-one
invariant-loop-one l = is_among l.name (names_of (known_views l.known)) ≡ is_among l.name (names_of (known_views (drop l.one-index l.known)))
