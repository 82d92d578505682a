use Rattle.std.proofs.Common.{◌≡◌, ◌≤◌, length}
use Rattle.tb_value.specs.declared.limits.TheConstants.{MAX_ROWS}
use Rattle.tb_value.specs.Promise.Pairs.{matched_pairs}
use Rattle.tb_frame.specs.Promise.Join.{matches}
use Rattle.tb_frame.specs.Promise.Table.{table_of, height}
use Rattle.tb_keys.specs.Asked.{asked_request}
use Rattle.tb_alone.proofs.listing.are_too_many.Given as goal

-- so many pairs have the left rows so far
abbrev pub invariant-loop-i : goal.invariant-loop-i
invariant-loop-i l = record {
  count : l.count ≡ length (matched_pairs l.i (height (table_of l.request.right.now)) (matches (asked_request l.request)));
  few : l.count ≤ MAX_ROWS;
}
