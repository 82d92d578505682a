use Rattle.std.proofs.Common.{◌≡◌, ◌∙◌, ◌++◌, ◌∷◌, ◌||◌, Bool, true, false, [], List, not, ap, sym}
use Rattle.std.proofs.lemmas.List.{append-nil}
use Rattle.tb_value.specs.Promise.Names.{Name}
use Rattle.tb_frame.specs.Promise.Naming.{is_among}
use Rattle.tb_pivot.proofs.Named.{kept_names}
use Rattle.tb_pivot.proofs.naming.outside.Goals as goal
use Rattle.tb_pivot.proofs.naming.outside.Goals.{then-is_in_neither+in_ok-copy+in_ok-push, else-is_in_neither}

pub loop-column-preserved : goal.loop-column-preserved
loop-column-preserved c =
    let test : Name → Bool = λ n. not (is_among c.args.names.now n || is_among c.args.others.now n) in
    let x = c.column-item.result in
    let kept : c.is_in_neither.result ≡ test x.name =
    c.is_in_neither.ensures ∙ (λ t. not (c.in_ok-names.ensures c.name.result.now t || c.in_ok-others.ensures c.name.result.now t)) ∙ ap test c.name.ensures in
    elim c.if-is_in_neither.branch [
      | then-is_in_neither+in_ok-copy+in_ok-push w ↦
          rw w.rest-is
          (w.in_ok-push.ensures.items
          ∙ ap (λ (n : Name). c.loop-column.rest.items ++ n ∷ []) (w.in_ok-copy.ensures ∙ w.name-then-is_in_neither.ensures)
          ∙ ap (λ (ns : List Name). ns ++ x.name ∷ []) c.loop-column.invariant
          ∙ sym (kept_names test c.get_columns-column-items.result.now c.loop-column.column-index x c.loop-column-test.true c.column-item.is true (sym kept ∙ w.if-is_in_neither.true)))
      | else-is_in_neither w ↦
          rw w.rest-is
          (c.loop-column.invariant ∙ sym (append-nil _)
          ∙ sym (kept_names test c.get_columns-column-items.result.now c.loop-column.column-index x c.loop-column-test.true c.column-item.is false (sym kept ∙ w.if-is_in_neither.false)))
    ]
