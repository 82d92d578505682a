use Rattle.std.proofs.Common.{◌≡◌, false}
use Rattle.std.specs.List.{list_any}
use Rattle.tb_value.specs.Promise.Pairs.{row_numbers}
use Rattle.tb_frame.specs.Promise.Join.{matches}
use Rattle.tb_keys.specs.Asked.{asked_request}
use Rattle.tb_keys.proofs.listing.is_left_met.Given as goal

abbrev pub invariant-loop-j : goal.invariant-loop-j
invariant-loop-j l = list_any (matches (asked_request l.request) l.i) (row_numbers l.j) ≡ false
