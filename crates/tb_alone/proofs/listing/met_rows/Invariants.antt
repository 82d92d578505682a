use Rattle.tb_frame.specs.Promise.Join.{matches}
use Rattle.tb_frame.specs.Promise.Table.{table_of, height}
use Rattle.tb_keys.specs.Asked.{asked_request}
use Rattle.tb_alone.specs.Found.{AreMarked}
use Rattle.tb_alone.proofs.listing.met_rows.Given as goal

-- the right rows that match one of the left rows so far are marked
abbrev pub invariant-loop-i : goal.invariant-loop-i
invariant-loop-i l = AreMarked (matches (asked_request l.request)) l.i (height (table_of l.request.right.now)) l.met.items
