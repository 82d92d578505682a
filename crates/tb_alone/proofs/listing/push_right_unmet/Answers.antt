use Rattle.std.proofs.Common.{◌≡◌, ℕ, Bool, false, sym, ◌∙◌, ap, not, arith}
use Rattle.std.specs.List.{list_any}
use Rattle.std.proofs.lemmas.List.{get_or_default}
use Rattle.tb_value.specs.Promise.Pairs.{row_numbers, right_only}
use Rattle.tb_value.proofs.RowNumbers.{kept_push, kept_skip}
use Rattle.tb_frame.specs.Promise.Join.{matches}
use Rattle.tb_frame.specs.Promise.Table.{table_of, height}
use Rattle.tb_keys.specs.Asked.{asked_request}
use Rattle.tb_alone.proofs.listing.push_right_unmet.Goals as goal
use Rattle.tb_alone.proofs.listing.push_right_unmet.Goals.{then-not-index+in_ok-push, else-not-index}

pub loop-j-preserved : goal.loop-j-preserved
loop-j-preserved c =
    let j = c.loop-j.j in
    let any : ℕ → Bool = λ j. list_any (λ i. matches (asked_request c.args.request.now) i j) (row_numbers (height (table_of c.args.request.now.left.now))) in
    let unmet : ℕ → Bool = λ j. not (any j) in
    let marked = c.in_ok-met.ensures in
    let low = c.loop-j-test.true in
    let is : c.index.result.now ≡ any j = c.index.ensures ∙ get_or_default c.in_ok-met.met.items j c.index.result.now false (omega (arith, low, c.height-j-end.ensures.height, marked.count))
    ∙ marked.each j (omega (arith, low, c.height-j-end.ensures.height)) in
    elim c.if-not-index.branch [
      | then-not-index+in_ok-push w ↦
          let step = kept_push right_only unmet j c.args.pairs.now.items c.loop-j.pairs.items w.right_only.result c.loop-j.invariant
          (ap not (sym is ∙ w.if-not-index.true)) w.right_only.ensures in
          rw w.pairs-is (w.in_ok-push.ensures.items ∙ step)
      | else-not-index w ↦
          let step = kept_skip right_only unmet j c.args.pairs.now.items c.loop-j.pairs.items c.loop-j.invariant (ap not (sym is ∙ w.if-not-index.false)) in
          rw w.pairs-is step
    ]
