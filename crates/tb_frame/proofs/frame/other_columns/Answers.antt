use Rattle.std.proofs.Common.{◌≡◌, Bool, not, ap, sym, ◌∙◌}
use Rattle.tb_chunk.specs.Promise.Col.{Col}
use Rattle.tb_frame.specs.Promise.Naming.{is_among}
use Rattle.tb_frame.proofs.Frames.{kept, passed}
use Rattle.tb_frame.proofs.frame.other_columns.Goals as goal
use Rattle.tb_frame.proofs.frame.other_columns.Goals.{then-not-contains+in_ok-copy+in_ok-push, else-not-contains}

pub loop-column-preserved : goal.loop-column-preserved
loop-column-preserved c =
    let names = c.args.names.now in
    let test : Col → Bool = λ k. not (is_among names k.name) in
    let x = c.column-item.result in
    let named : is_among names x.name ≡ c.contains.result = sym (c.contains.ensures ∙ c.in_ok-gone.ensures c.name.result.now ∙ ap (is_among names) c.name.ensures) in
    elim c.if-not-contains.branch [
      | then-not-contains+in_ok-copy+in_ok-push w ↦
          rw w.others-is
          (w.in_ok-push.ensures.items
          ∙ kept test c.args.columns.now c.loop-column.column-index x c.loop-column-test.true c.column-item.is c.loop-column.others.items c.loop-column.invariant w.in_ok-copy.field-0 w.in_ok-copy.ensures
          (ap not (named ∙ w.if-not-contains.true)))
      | else-not-contains w ↦
          rw w.others-is
          (passed test c.args.columns.now c.loop-column.column-index x c.loop-column-test.true c.column-item.is c.loop-column.others.items c.loop-column.invariant (ap not (named ∙ w.if-not-contains.false)))
    ]
