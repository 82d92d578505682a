use Rattle.std.proofs.Common.{◌≡◌, ◌<◌, ◌≤◌, length, map, ap, sym, ◌∙◌, arith}
use Rattle.std.proofs.lemmas.List.{get_or-map, length-map, take_all}
use Rattle.serde_json.specs.View.{items_of}
use Rattle.tb_value.specs.Promise.Kind.{weight, weights, parts_of}
use Rattle.tb_value.specs.SeeKind.{kind_of, part, parts}
use Rattle.tb_json.specs.Promise.Text.{parts_data}
use Rattle.tb_value.proofs.FieldTests.{weight_at}
use Rattle.tb_json.proofs.Fields.{field_data, parts_data-map}
use Rattle.tb_json.proofs.write_kinds.+types.Goals as goal

pub fields_value-type_value-requires : goal.fields_value-type_value-requires
fields_value-type_value-requires t c =
    let listed = c.as_slice-listed.result.now in
    let f = c.field-item.result in
    let i = c.loop-field.field-index in
    let within : i < length listed = c.loop-field-test.true in
    let light : weight (kind_of f.dtype) ≤ weights (parts_of (map part listed)) = weight_at (map part listed) i (part f) (rw length-map within) (sym (get_or-map part listed i f (part f) within ∙ ap part (sym c.field-item.is))) in
    let same : weights (parts_of (map part listed)) ≡ weights (parts_of (parts c.args.fields.now)) = ap (λ ps. weights (parts_of ps)) c.as_slice-listed.ensures in
    (omega (arith, light, same, c.decreases), tt)

pub fields_value-returns : goal.fields_value-returns
fields_value-returns t c =
    let listed = c.as_slice-listed.result.now in
    ap items_of (c.loop-field.invariant ∙ ap (λ fs. map field_data (map part fs)) (take_all _ listed c.loop-field-test.false))
    ∙ parts_data-map (map part listed) ∙ ap (λ ps. parts_data (parts_of ps)) c.as_slice-listed.ensures
