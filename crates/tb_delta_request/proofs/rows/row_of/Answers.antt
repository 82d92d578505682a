use Rattle.std.proofs.Common.{◌≡◌, ◌<◌, length, map, option_map, ◌∙◌, sym, ap, subst, arith}
use Rattle.std.proofs.lemmas.List.{map_push, get_or-map, length-map, take_all}
use Rattle.tb_tree.specs.View.{view}
use Rattle.tb_value.specs.Promise.Datum.{items_of}
use Rattle.tb_value.specs.Promise.Kind.{Part, parts_of}
use Rattle.tb_value.specs.Promise.Typed.{HasType, AreEachOf}
use Rattle.tb_value.specs.See.{datum}
use Rattle.tb_value.specs.SeeKind.{kind_of}
use Rattle.tb_json.proofs.ValueWalks.{FieldsSoFar-start, FieldsSoFar-more, FieldsSoFar-fails, FieldsSoFar-all, read_at, row-uneven, TypedSoFar-start, TypedSoFar-more}
use Rattle.tb_delta_request.specs.Lent.{column_part}
use Rattle.tb_delta_request.proofs.RowValues.{no_row_read, row_read}
use Rattle.tb_delta_request.proofs.rows.row_of.Goals as goal

pub returns-then-row-columns-clause-value : goal.returns-then-row-columns-clause-value
returns-then-row-columns-clause-value c =
    let row = c.args.row.now in
    let columns = c.args.columns.now in
    no_row_read columns (map view row)
    (row-uneven (map column_part columns) (map view row) (λ e. absurd (omega (arith, length-map row view, length-map columns column_part))))

pub loop-place-init : goal.loop-place-init
loop-place-init c =
    let ps = map column_part c.args.columns.now in
    rw c.in_ok-values.ensures.items (record { read = FieldsSoFar-start ps (map view c.args.row.now); typed = TypedSoFar-start ps })

pub loop-place-preserved : goal.loop-place-preserved
loop-place-preserved c =
    let row = c.args.row.now in
    let columns = c.args.columns.now in
    let i = c.loop-place.place in
    let w = c.index-columns-place.result in
    let v = c.index-row-place.result in
    let within : i < length columns = omega arith in
    let of = get_or-map column_part columns i w (column_part w) within ∙ ap column_part (sym c.index-columns-place.is) in
    let read = read_at column_part columns (map view row) i w (view v) within c.index-columns-place.is (ap view c.index-row-place.is ∙ sym (get_or-map view row i v (view v) (omega arith))) ∙ sym c.in_ok-value.ensures.value ∙ ap (option_map datum) c.in-Some.is in
    let typed : HasType (kind_of w.dtype) (datum c.in-Some.value) = rw c.in-Some.is at c.in_ok-value.ensures.typed in
    let P : Part → Type 0 = λ p. HasType p.1 (datum c.in-Some.value) in
    rw (c.in_ok-push.ensures.items, map_push) (record {
      read = FieldsSoFar-more (map column_part columns) (map view row) _ i (column_part w) (view v) _ (rw length-map within) (rw length-map (omega arith)) read c.loop-place.invariant.read;
      typed = TypedSoFar-more (map column_part columns) _ i (column_part w) _ (rw length-map within) (subst P (sym of) typed) c.loop-place.invariant.typed;
    })

pub returns-in_default-clause-value : goal.returns-in_default-clause-value
returns-in_default-clause-value c =
    let row = c.args.row.now in
    let columns = c.args.columns.now in
    let i = c.loop-place.place in
    let w = c.index-columns-place.result in
    let v = c.index-row-place.result in
    let within : i < length columns = omega arith in
    let read = read_at column_part columns (map view row) i w (view v) within c.index-columns-place.is (ap view c.index-row-place.is ∙ sym (get_or-map view row i v (view v) (omega arith))) ∙ sym c.in_ok-value.ensures.value ∙ ap (option_map datum) c.in_default.is in
    no_row_read columns (map view row) (FieldsSoFar-fails (map column_part columns) (map view row) _ i (column_part w) (view v) (rw length-map within) (rw length-map (omega arith)) read c.loop-place.invariant.read)

pub returns-clause-value : goal.returns-clause-value
returns-clause-value c =
    let row = c.args.row.now in
    let columns = c.args.columns.now in
    row_read columns (map view row) (map datum c.loop-place.values.items)
    (FieldsSoFar-all (map column_part columns) (map view row) _ c.loop-place.place (rw length-map (omega arith)) (rw length-map (omega arith)) c.loop-place.invariant.read)

pub returns-clause-typed : goal.returns-clause-typed
returns-clause-typed c =
    let columns = c.args.columns.now in
    subst (λ ps. AreEachOf (parts_of ps) (items_of (map datum c.loop-place.values.items))) (take_all _ (map column_part columns) (rw length-map (omega arith))) c.loop-place.invariant.typed
