use Rattle.std.proofs.Common.{◌≡◌, ◌∙◌, Bor, Bool, not, refl, ap, sym}
use Rattle.std.proofs.lemmas.List.{map_push}
use Rattle.tb_chunk.specs.Promise.Col.{Col}
use Rattle.tb_chunk.specs.Lent.{lent_columns}
use Rattle.tb_frame.specs.Promise.Naming.{is_among}
use Rattle.tb_frame.proofs.Frames.{kept, passed}
use Rattle.tb_join.proofs.kept.kept_columns.Goals as goal
use Rattle.tb_join.proofs.kept.kept_columns.Goals.{then-not-contains+in_ok-push, else-not-contains}

pub loop-column-preserved : goal.loop-column-preserved
loop-column-preserved c =
    let names = c.args.gone.now in
    let test : Col → Bool = λ k. not (is_among names k.name) in
    let cs = c.args.columns.now in
    let i = c.loop-column.column-index in
    let x = c.column-item.result in
    let so_far = c.loop-column.kept.items in
    let named : is_among names x.name ≡ c.contains.result = sym (c.contains.ensures ∙ c.in_ok-gone.ensures c.name.result.now ∙ ap (is_among names) c.name.ensures) in
    elim c.if-not-contains.branch [
      | then-not-contains+in_ok-push w ↦
          rw w.kept-is
          (ap lent_columns w.in_ok-push.ensures.items ∙ map_push (λ (b : Bor Col). b.now) so_far _
          ∙ kept test cs i x c.loop-column-test.true c.column-item.is (lent_columns so_far) c.loop-column.invariant x refl (ap not (named ∙ w.if-not-contains.true)))
      | else-not-contains w ↦
          rw w.kept-is (passed test cs i x c.loop-column-test.true c.column-item.is (lent_columns so_far) c.loop-column.invariant (ap not (named ∙ w.if-not-contains.false)))
    ]
