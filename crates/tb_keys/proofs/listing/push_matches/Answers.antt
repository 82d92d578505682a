use Rattle.std.proofs.Common.{ℕ, Bool, sym, ◌∙◌}
use Rattle.tb_value.specs.Promise.Pairs.{both}
use Rattle.tb_value.proofs.RowNumbers.{kept_push, kept_skip}
use Rattle.tb_frame.specs.Promise.Join.{matches}
use Rattle.tb_keys.specs.Asked.{asked_request}
use Rattle.tb_keys.proofs.listing.push_matches.Goals as goal
use Rattle.tb_keys.proofs.listing.push_matches.Goals.{then-rows_match+in_ok-push, else-rows_match}

pub loop-j-preserved : goal.loop-j-preserved
loop-j-preserved c =
    let test : ℕ → Bool = matches (asked_request c.args.request.now) c.args.i in
    elim c.if-rows_match.branch [
      | then-rows_match+in_ok-push w ↦
          let step = kept_push (both c.args.i) test c.loop-j.j c.args.pairs.now.items c.loop-j.pairs.items w.both.result c.loop-j.invariant
          (sym c.rows_match.ensures ∙ w.if-rows_match.true) w.both.ensures in
          rw w.pairs-is (w.in_ok-push.ensures.items ∙ step)
      | else-rows_match w ↦
          let step = kept_skip (both c.args.i) test c.loop-j.j c.args.pairs.now.items c.loop-j.pairs.items c.loop-j.invariant (sym c.rows_match.ensures ∙ w.if-rows_match.false) in
          rw w.pairs-is step
    ]
