use Rattle.std.proofs.Common.{◌≡◌, true}
use Rattle.tb_keys.specs.Asked.{asked_request}
use Rattle.tb_keys.proofs.KeyFields.{match_to}
use Rattle.tb_keys.proofs.agreeing.rows_match.Given as goal

-- the places so far agree
abbrev pub invariant-loop-p : goal.invariant-loop-p
invariant-loop-p l = match_to (asked_request l.request) l.i l.j l.p ≡ true
