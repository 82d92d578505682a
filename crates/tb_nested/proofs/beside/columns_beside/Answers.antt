use Rattle.std.proofs.Common.{◌≡◌, ◌∷◌, ◌++◌, ◌∙◌, Bool, true, false, cond, List, [], length, not, ap, sym, subst, arith}
use Rattle.std.specs.Prelude.{All}
use Rattle.std.proofs.lemmas.List.{take_all}
use Rattle.std.proofs.lemmas.List.Elements.{All-nil}
use Rattle.tb_value.proofs.Kept.{made, skipped}
use Rattle.tb_chunk.specs.Promise.Col.{Col, values}
use Rattle.tb_chunk.specs.Rows.{IsRowOf}
use Rattle.tb_frame.specs.Promise.Table.{table_of, names_of}
use Rattle.tb_frame.specs.Promise.Naming.{has_right, is_among}
use Rattle.tb_frame.specs.RightColumns.{gone_right, right_column, right_columns}
use Rattle.tb_frame.specs.Sides.{of_kind}
use Rattle.tb_nested.proofs.beside.columns_beside.Goals as goal
use Rattle.tb_nested.proofs.beside.columns_beside.Goals.{then-not-contains+in_ok-named_column+in_ok-push, else-not-contains}

-- what holds of each right column holds of each that the answer has
side_has : (P : Col → Type 0) (b : Bool) (cs : List Col) → All P cs → All P (cond b cs [])
side_has P true cs h = h
side_has P false cs h = All-nil P

pub named_column-requires-clause-rows : goal.named_column-requires-clause-rows
named_column-requires-clause-rows c =
    let P : Col → Type 0 = λ k. All (IsRowOf (length (values k))) c.args.rows.now in
    let side : All P c.right_side-side.result.now = subst (λ (ks : List Col). All P ks) (sym c.right_side-side.ensures) (side_has P (has_right c.args.how) c.args.right.now c.requires.rows) in
    subst P (sym c.column-item.is) (side c.loop-column.column-index c.column-item.result c.loop-column-test.true)

pub loop-column-preserved : goal.loop-column-preserved
loop-column-preserved c =
    let taken = names_of (table_of c.args.left.now) in
    let gone = gone_right (of_kind c.args.how c.args.args.now) c.args.right_on.now in
    let side = c.right_side-side.result.now in
    let f : Col → Col = right_column taken c.suffix_of-suffix.result.now c.args.rows.now in
    let test : Col → Bool = λ k. not (is_among gone k.name) in
    let x = c.column-item.result in
    let named : is_among gone x.name ≡ c.contains.result = sym (c.contains.ensures ∙ c.in_ok-gone.ensures c.name.result.now ∙ (λ t. is_among (c.gone_right.ensures t) (c.name.ensures t))) in
    elim c.if-not-contains.branch [
      | then-not-contains+in_ok-named_column+in_ok-push w ↦
          rw w.columns-is
          (◌∙◌ {A = List Col} {b = c.loop-column.columns.items ++ w.in_ok-named_column.field-0 ∷ []} w.in_ok-push.ensures.items
          (made f test side c.loop-column.column-index x c.loop-column-test.true c.column-item.is [] c.loop-column.columns.items w.in_ok-named_column.field-0 c.loop-column.invariant (ap not (named ∙ w.if-not-contains.true))
          (w.in_ok-named_column.ensures taken c.in_ok-taken.ensures)))
      | else-not-contains w ↦
          rw w.columns-is
          (skipped f test side c.loop-column.column-index x c.loop-column-test.true c.column-item.is [] c.loop-column.columns.items c.loop-column.invariant (ap not (named ∙ w.if-not-contains.false)))
    ]

pub returns : goal.returns
returns c =
    let taken = names_of (table_of c.args.left.now) in
    let gone = gone_right (of_kind c.args.how c.args.args.now) c.args.right_on.now in
    c.loop-column.invariant
    ∙ (λ t. right_columns taken (c.suffix_of-suffix.ensures t) gone c.args.rows.now ((take_all c.loop-column.column-index c.right_side-side.result.now (omega arith) ∙ c.right_side-side.ensures) t))
