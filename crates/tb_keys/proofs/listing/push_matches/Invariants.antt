use Rattle.std.proofs.Common.{◌≡◌, ◌++◌, map}
use Rattle.std.specs.Prelude.{filter}
use Rattle.tb_value.specs.Promise.Pairs.{row_numbers, both}
use Rattle.tb_frame.specs.Promise.Join.{matches}
use Rattle.tb_keys.specs.Asked.{asked_request}
use Rattle.tb_keys.proofs.listing.push_matches.Given as goal

-- the matches among the right rows so far are put behind
abbrev pub invariant-loop-j : goal.invariant-loop-j
invariant-loop-j l = l.pairs.items ≡ l.initial.pairs.items ++ map (both l.i) (filter (matches (asked_request l.request) l.i) (row_numbers l.j))
