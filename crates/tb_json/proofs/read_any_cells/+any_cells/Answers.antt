use Rattle.std.proofs.Common.{◌≡◌, ◌<◌, Option, IfOk, length, map, option_map, ◌∙◌, sym, ap, subst, arith}
use Rattle.std.proofs.lemmas.List.{map_push, get_or-map, length-map, take_all}
use Rattle.std.proofs.lemmas.List.Elements.{All-push}
use Rattle.serde_json.specs.Data.{depth}
use Rattle.serde_json.specs.View.{items_of as array_items}
use Rattle.tb_tree.specs.declared.items.Item.{Item}
use Rattle.tb_tree.specs.View.{view, item_view, listed}
use Rattle.tb_value.specs.Promise.Datum.{Datum, items_of}
use Rattle.tb_value.specs.Promise.Kind.{Part, parts_of}
use Rattle.tb_value.specs.See.{datum}
use Rattle.tb_value.specs.SeeKind.{kind_of, part}
use Rattle.tb_value.specs.Promise.Typed.{HasType, AreEachOf}
use Rattle.tb_json.specs.Promise.Cells.{cell_in, items_in, row_in}
use Rattle.tb_json.proofs.CellForms.{cell-null, cell-boolean, cell-text, cell-array, cell-number}
use Rattle.tb_json.proofs.Depths.{array_depth, depth_at}
use Rattle.tb_json.proofs.LentValues.{ItemsWalk-more, ItemsWalk-fails, ItemsWalk-all}
use Rattle.tb_json.proofs.ValueWalks.{items_in-each, AreOf-All, FieldsSoFar-start, FieldsSoFar-more, FieldsSoFar-fails, FieldsSoFar-all, read_at, row-uneven, TypedSoFar-start, TypedSoFar-more}
use Rattle.tb_json.proofs.read_any_cells.+any_cells.Goals as goal

pub each_value-returns-in_default-clause-value : goal.each_value-returns-in_default-clause-value
each_value-returns-in_default-clause-value t c =
    let k = kind_of c.args.dtype.now in
    ap (option_map items_of) (ItemsWalk-fails (cell_in k) _ _ _ _ (omega arith) c.at.ensures (sym c.in_ok-value.ensures.value ∙ ap (option_map datum) c.in_default.is) c.loop-i.invariant.walked)
    ∙ sym (items_in-each k (listed c.args.items))

pub each_value-loop-i-preserved : goal.each_value-loop-i-preserved
each_value-loop-i-preserved t c =
    let k = kind_of c.args.dtype.now in record {
      walked =
          rw (c.in_ok-push.ensures.items, map_push)
          (ItemsWalk-more (cell_in k) _ _ _ _ _ (omega arith) c.at.ensures (sym c.in_ok-value.ensures.value ∙ ap (option_map datum) c.in-Some.is) c.loop-i.invariant.walked);
      typed = rw (c.in_ok-push.ensures.items, map_push) (All-push (HasType k) _ _ c.loop-i.invariant.typed (rw c.in-Some.is at c.in_ok-value.ensures.typed));
    }

pub each_value-returns-clause-value : goal.each_value-returns-clause-value
each_value-returns-clause-value t c =
    let k = kind_of c.args.dtype.now in
    ap (option_map items_of) (ItemsWalk-all (cell_in k) _ _ _ (omega arith) c.loop-i.invariant.walked)
    ∙ sym (items_in-each k (listed c.args.items))

pub each_value-returns-clause-typed : goal.each_value-returns-clause-typed
each_value-returns-clause-typed t c = AreOf-All (kind_of c.args.dtype.now) (map datum c.loop-i.values.items) c.loop-i.invariant.typed

pub row_of-returns-then-len-members-clause-value : goal.row_of-returns-then-len-members-clause-value
row_of-returns-then-len-members-clause-value t c =
    let members = c.as_slice-members.result.now in
    row-uneven (map part members) (listed c.args.items) (λ e. absurd (omega (arith, length-map members part)))
    ∙ ap (λ qs. row_in (parts_of qs) (array_items (listed c.args.items))) c.as_slice-members.ensures

pub row_of-loop-i-init : goal.row_of-loop-i-init
row_of-loop-i-init t c =
    let ps = map part c.as_slice-members.result.now in
    rw c.in_ok-values.ensures.items (record { read = FieldsSoFar-start ps (listed c.args.items); typed = TypedSoFar-start ps })

pub row_of-loop-i-preserved : goal.row_of-loop-i-preserved
row_of-loop-i-preserved t c =
    let ds = listed c.args.items in
    let members = c.as_slice-members.result.now in
    let i = c.loop-i.i in
    let f = c.index-members-i.result in
    let d = item_view c.at.result in
    let within : i < length members = omega arith in
    let of = get_or-map part members i f (part f) within ∙ ap part (sym c.index-members-i.is) in
    let read = read_at part members ds i f d within c.index-members-i.is c.at.ensures ∙ sym c.in_ok-value.ensures.value ∙ ap (option_map datum) c.in-Some.is in
    let typed : HasType (kind_of f.dtype) (datum c.in-Some.value) = rw c.in-Some.is at c.in_ok-value.ensures.typed in
    let P : Part → Type 0 = λ p. HasType p.1 (datum c.in-Some.value) in
    rw (c.in_ok-push.ensures.items, map_push) (record {
      read = FieldsSoFar-more (map part members) ds _ i (part f) d _ (rw length-map within) (omega arith) read c.loop-i.invariant.read;
      typed = TypedSoFar-more (map part members) _ i (part f) _ (rw length-map within) (subst P (sym of) typed) c.loop-i.invariant.typed;
    })

pub row_of-returns-in_default-clause-value : goal.row_of-returns-in_default-clause-value
row_of-returns-in_default-clause-value t c =
    let ds = listed c.args.items in
    let members = c.as_slice-members.result.now in
    let f = c.index-members-i.result in
    let d = item_view c.at.result in
    let within : c.loop-i.i < length members = omega arith in
    let read = read_at part members ds c.loop-i.i f d within c.index-members-i.is c.at.ensures ∙ sym c.in_ok-value.ensures.value ∙ ap (option_map datum) c.in_default.is in
    FieldsSoFar-fails (map part members) ds _ c.loop-i.i (part f) d (rw length-map within) (omega arith) read c.loop-i.invariant.read
    ∙ ap (λ qs. row_in (parts_of qs) (array_items ds)) c.as_slice-members.ensures

pub row_of-returns-clause-value : goal.row_of-returns-clause-value
row_of-returns-clause-value t c =
    let ds = listed c.args.items in
    let members = c.as_slice-members.result.now in
    FieldsSoFar-all (map part members) ds _ c.loop-i.i (rw length-map (omega arith)) (omega arith) c.loop-i.invariant.read
    ∙ ap (λ qs. row_in (parts_of qs) (array_items ds)) c.as_slice-members.ensures

pub row_of-returns-clause-typed : goal.row_of-returns-clause-typed
row_of-returns-clause-typed t c =
    let members = c.as_slice-members.result.now in
    subst (λ qs. AreEachOf (parts_of qs) (items_of (map datum c.loop-i.values.items))) (take_all _ (map part members) (rw length-map (omega arith)) ∙ c.as_slice-members.ensures) c.loop-i.invariant.typed

pub value_of-array_of-requires : goal.value_of-array_of-requires
value_of-array_of-requires t c =
    let level = array_depth (view c.args.value.now) (array_items (listed c.in-Some-as_array.items)) c.in-Some-as_array.ensures in
    omega (arith, level, c.decreases)

pub each_value-item_of-requires : goal.each_value-item_of-requires
each_value-item_of-requires t c =
    let below = depth_at (listed c.args.items) c.loop-i.i (item_view c.at.result) (omega arith) c.at.ensures in
    omega (arith, below, c.decreases)

pub row_of-item_of-requires : goal.row_of-item_of-requires
row_of-item_of-requires t c =
    let below = depth_at (listed c.args.items) c.loop-i.i (item_view c.at.result) (omega arith) c.at.ensures in
    omega (arith, below, c.decreases)

pub item_of-value_of-requires : goal.item_of-value_of-requires
item_of-value_of-requires t c =
    let same = ap (λ (i : Item). depth (item_view i)) c.in-Lent.is in
    omega (arith, same, c.decreases)

pub value_of-returns-then-is_null-clause-value : goal.value_of-returns-then-is_null-clause-value
value_of-returns-then-is_null-clause-value t c =
    sym (cell-null (kind_of c.args.dtype.now) (view c.args.value.now) (sym c.is_null.ensures ∙ c.if-is_null.true))

pub value_of-returns-in-Some-clause-value : goal.value_of-returns-in-Some-clause-value
value_of-returns-in-Some-clause-value t c =
    c.boolean_of.ensures.value ∙ cell-boolean (kind_of c.args.dtype.now) (view c.args.value.now) c.in-Some.b c.in-Some.ensures

pub value_of-returns-in-Some-as_str-clause-value : goal.value_of-returns-in-Some-as_str-clause-value
value_of-returns-in-Some-as_str-clause-value t c =
    let P : Option Datum → Type 0 = λ d. IfOk c.text_of.result (λ o. option_map datum o ≡ d) in
    subst P (cell-text (kind_of c.args.dtype.now) (view c.args.value.now) c.in-Some-as_str.text.now c.in-Some-as_str.ensures) c.text_of.ensures.value

pub value_of-returns-in-Some-as_array-clause-value : goal.value_of-returns-in-Some-as_array-clause-value
value_of-returns-in-Some-as_array-clause-value t c =
    let P : Option Datum → Type 0 = λ d. IfOk c.array_of.result (λ o. option_map datum o ≡ d) in
    subst P (cell-array (kind_of c.args.dtype.now) (view c.args.value.now) (array_items (listed c.in-Some-as_array.items)) c.in-Some-as_array.ensures) c.array_of.ensures.value

pub value_of-returns-in-None-clause-value : goal.value_of-returns-in-None-clause-value
value_of-returns-in-None-clause-value t c =
    c.number_of.ensures.value
    ∙ cell-number (kind_of c.args.dtype.now) (view c.args.value.now) (sym c.is_null.ensures ∙ c.if-is_null.false) c.in_default.ensures c.in_default-as_str.ensures c.in-None.ensures

pub item_of-returns-in-Lent-clause-value : goal.item_of-returns-in-Lent-clause-value
item_of-returns-in-Lent-clause-value t c =
    let P : Item → Type 0 = λ i. IfOk c.value_of.result (λ o. option_map datum o ≡ cell_in (kind_of c.args.dtype.now) (item_view i)) in
    subst P (sym c.in-Lent.is) c.value_of.ensures.value
