use Rattle.std.proofs.Common.{◌≡◌, Bool, [], not, ap, sym, ◌∙◌}
use Rattle.tb_value.specs.Promise.Names.{Name}
use Rattle.tb_value.proofs.Kept.{made, skipped}
use Rattle.tb_chunk.specs.Promise.Col.{Col}
use Rattle.tb_frame.specs.Promise.Naming.{is_among}
use Rattle.tb_unpivot.proofs.lookup.other_names.Goals as goal
use Rattle.tb_unpivot.proofs.lookup.other_names.Goals.{then-not-contains+in_ok-copy+in_ok-push, else-not-contains}

pub loop-column-preserved : goal.loop-column-preserved
loop-column-preserved c =
    let index = c.args.index.now in
    let f : Col → Name = λ k. k.name in
    let test : Col → Bool = λ k. not (is_among index k.name) in
    let x = c.column-item.result in
    let names = c.loop-column.names.items in
    let named : is_among index x.name ≡ c.contains.result = sym (c.contains.ensures ∙ c.in_ok-gone.ensures c.name.result.now ∙ ap (is_among index) c.name.ensures) in
    elim c.if-not-contains.branch [
      | then-not-contains+in_ok-copy+in_ok-push w ↦
          rw w.names-is
          (w.in_ok-push.ensures.items
          ∙ made f test c.args.columns.now c.loop-column.column-index x c.loop-column-test.true c.column-item.is [] names w.in_ok-copy.field-0 c.loop-column.invariant (ap not (named ∙ w.if-not-contains.true)) (w.in_ok-copy.ensures ∙ w.name-then-not-contains.ensures))
      | else-not-contains w ↦
          rw w.names-is
          (skipped f test c.args.columns.now c.loop-column.column-index x c.loop-column-test.true c.column-item.is [] names c.loop-column.invariant (ap not (named ∙ w.if-not-contains.false)))
    ]
