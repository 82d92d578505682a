use Rattle.std.proofs.Common.{◌≡◌, ◌<◌, ◌≤◌, ◌++◌, ◌+◌, ◌∷◌, [], List, length, map, get_or, subst, ap, sym, ◌∙◌, arith}
use Rattle.std.proofs.lemmas.List.{get_or-map, length-map, take_all, map_push}
use Rattle.serde_json.specs.View as json
use Rattle.serde_json.specs.View.{view}
use Rattle.serde_json.specs.Data.{Data}
use Rattle.tb_value.specs.Promise.Datum.{weight, weights, items_of}
use Rattle.tb_value.specs.Promise.Kind.{parts_of}
use Rattle.tb_value.specs.See.{datum, lent_value}
use Rattle.tb_value.specs.SeeKind.{kind_of, part, parts}
use Rattle.tb_value.specs.Promise.Typed.{AreOf, AreEachOf}
use Rattle.tb_json.specs.Promise.Text.{value_data, items_data, fields_data}
use Rattle.tb_json.proofs.Nested.{as_many, placed, items_data-map, weight_in, AreOf_at, AreEachOf_at, RowSoFar, RowSoFar-more, RowSoFar-all}
use Rattle.tb_json.proofs.write_cells.+cells.Goals as goal

pub list_values-cell_value-requires : goal.list_values-cell_value-requires
list_values-cell_value-requires t c =
    let listed = c.as_slice-listed.result.now in
    let x = c.value-item.result in
    let i = c.loop-value.value-index in
    let within : i < length listed = c.loop-value-test.true in
    let at : datum x ≡ get_or (map datum listed) i (datum x) = sym (get_or-map datum listed i x (datum x) within ∙ ap datum (sym c.value-item.is)) in
    let light : weight (datum x) ≤ weights (items_of (map datum listed)) = weight_in (map datum listed) i (datum x) (rw length-map within) at in
    let same : weights (items_of (map datum listed)) ≡ weights (items_of c.args.values.now) = ap (λ vs. weights (items_of vs)) c.as_slice-listed.ensures in
    let e : weight (lent_value c.as_ref.result) ≡ weight (datum x) = ap weight c.as_ref.ensures.value in (
      omega (arith, light, same, e, c.decreases),
      rw c.as_ref.ensures.value
          (AreOf_at (kind_of c.args.dtype.now) (map datum listed) i (datum x) (rw length-map within) at (subst (λ vs. AreOf (kind_of c.args.dtype.now) (items_of vs)) (sym c.as_slice-listed.ensures) c.requires)),
    )

pub list_values-returns : goal.list_values-returns
list_values-returns t c =
    let listed = c.as_slice-listed.result.now in
    let k = kind_of c.args.dtype.now in
    ap json.items_of (c.loop-value.invariant ∙ ap (λ vs. map (value_data k) (map datum vs)) (take_all _ listed c.loop-value-test.false))
    ∙ items_data-map k (map datum listed) ∙ ap (λ vs. items_data k (items_of vs)) c.as_slice-listed.ensures

pub struct_values-bounds-members-i : goal.struct_values-bounds-members-i
struct_values-bounds-members-i t c =
    let same = as_many part datum c.as_slice-members.result.now c.as_slice-listed.result.now _ _ c.as_slice-members.ensures c.as_slice-listed.ensures c.requires in
    omega (arith, same)

pub struct_values-cell_value-requires : goal.struct_values-cell_value-requires
struct_values-cell_value-requires t c =
    let members = c.as_slice-members.result.now in
    let listed = c.as_slice-listed.result.now in
    let x = c.index-listed-i.result in
    let f = c.index-members-i.result in
    let same = as_many part datum members listed _ _ c.as_slice-members.ensures c.as_slice-listed.ensures c.requires in
    let here = placed part datum members listed c.loop-i.i f x same (omega arith) c.index-members-i.is c.index-listed-i.is in
    let light = weight_in (map datum listed) c.loop-i.i (datum x) here.within here.at in
    let all : weights (items_of (map datum listed)) ≡ weights (items_of c.args.values.now) = ap (λ vs. weights (items_of vs)) c.as_slice-listed.ensures in
    let e : weight (lent_value c.as_ref.result) ≡ weight (datum x) = ap weight c.as_ref.ensures.value in
    let typed : AreEachOf (parts_of (map part members)) (items_of (map datum listed)) =
    subst (λ vs. AreEachOf (parts_of (map part members)) (items_of vs)) (sym c.as_slice-listed.ensures) (subst (λ ps. AreEachOf (parts_of ps) (items_of c.args.values.now)) (sym c.as_slice-members.ensures) c.requires) in (
      omega (arith, light, all, e, c.decreases),
      rw c.as_ref.ensures.value (AreEachOf_at (map part members) (map datum listed) c.loop-i.i (part f) (datum x) here.among here.within here.of here.at typed),
    )

pub struct_values-loop-i-preserved : goal.struct_values-loop-i-preserved
struct_values-loop-i-preserved t c =
    let members = c.as_slice-members.result.now in
    let listed = c.as_slice-listed.result.now in
    let x = c.index-listed-i.result in
    let f = c.index-members-i.result in
    let same = as_many part datum members listed _ _ c.as_slice-members.ensures c.as_slice-listed.ensures c.requires in
    let here = placed part datum members listed c.loop-i.i f x same (omega arith) c.index-members-i.is c.index-listed-i.is in
    let done : List Data = map view c.loop-i.items.items in
    let pushed : map view c.push.new.self.items ≡ done ++ value_data (kind_of f.dtype) (datum x) ∷ [] =
    ap (map view) c.in_ok-push.ensures.items ∙ map_push view _ _ ∙ ap (λ v. done ++ v ∷ []) (c.in_ok-cell_value.ensures ∙ ap (value_data (kind_of f.dtype)) c.as_ref.ensures.value) in
    subst (λ ds. RowSoFar (map part members) (map datum listed) ds (c.loop-i.i + 1)) (sym pushed)
    (RowSoFar-more (map part members) (map datum listed) done c.loop-i.i (part f) (datum x) here.among here.within here.of here.at c.loop-i.invariant)

pub struct_values-returns : goal.struct_values-returns
struct_values-returns t c =
    let listed = c.as_slice-listed.result.now in
    let members = c.as_slice-members.result.now in
    RowSoFar-all (map part members) (map datum listed) (map view c.loop-i.items.items) c.loop-i.i (rw length-map (omega arith)) c.loop-i.invariant
    ∙ ap (λ qs. fields_data (parts_of qs) (items_of (map datum listed))) c.as_slice-members.ensures
    ∙ ap (λ us. fields_data (parts_of (parts c.args.fields.now)) (items_of us)) c.as_slice-listed.ensures
