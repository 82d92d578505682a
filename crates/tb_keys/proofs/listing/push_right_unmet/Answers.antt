use Rattle.std.proofs.Common.{ℕ, Bool, sym, ◌∙◌, ap, not}
use Rattle.std.specs.List.{list_any}
use Rattle.tb_value.specs.Promise.Pairs.{row_numbers, right_only}
use Rattle.tb_value.proofs.RowNumbers.{kept_push, kept_skip}
use Rattle.tb_frame.specs.Promise.Join.{matches}
use Rattle.tb_frame.specs.Promise.Table.{table_of, height}
use Rattle.tb_keys.specs.Asked.{asked_request}
use Rattle.tb_keys.proofs.listing.push_right_unmet.Goals as goal
use Rattle.tb_keys.proofs.listing.push_right_unmet.Goals.{then-not-is_right_met+in_ok-push, else-not-is_right_met}

pub loop-j-preserved : goal.loop-j-preserved
loop-j-preserved c =
    let unmet : ℕ → Bool = λ j. not (list_any (λ i. matches (asked_request c.args.request.now) i j) (row_numbers (height (table_of c.args.request.now.left.now)))) in
    elim c.if-not-is_right_met.branch [
      | then-not-is_right_met+in_ok-push w ↦
          let step = kept_push right_only unmet c.loop-j.j c.args.pairs.now.items c.loop-j.pairs.items w.right_only.result c.loop-j.invariant
          (ap not (sym c.is_right_met.ensures ∙ w.if-not-is_right_met.true)) w.right_only.ensures in
          rw w.pairs-is (w.in_ok-push.ensures.items ∙ step)
      | else-not-is_right_met w ↦
          let step = kept_skip right_only unmet c.loop-j.j c.args.pairs.now.items c.loop-j.pairs.items c.loop-j.invariant (ap not (sym c.is_right_met.ensures ∙ w.if-not-is_right_met.false)) in
          rw w.pairs-is step
    ]
