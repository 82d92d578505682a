use Rattle.std.proofs.Common.{◌≡◌, ◌<◌, ◌≤◌, length, map, get_or, ap, sym, ◌∙◌, arith}
use Rattle.std.proofs.lemmas.List.{get_or-map, length-map}
use Rattle.tb_value.specs.Promise.Kind.{weight, weights, parts_of}
use Rattle.tb_value.specs.SeeKind.{kind_of, part, parts}
use Rattle.tb_value.proofs.FieldTests.{weight_at, parts_differ}
use Rattle.tb_value.proofs.same_type.+types.Goals as goal

pub same_fields-returns-then-fields-others : goal.same_fields-returns-then-fields-others
same_fields-returns-then-fields-others t c =
    let f : length (parts c.args.first.now) ≡ length c.as_slice-fields.result.now = ap length (sym c.as_slice-fields.ensures) ∙ length-map c.as_slice-fields.result.now part in
    let g : length (parts c.args.second.now) ≡ length c.as_slice-others.result.now = ap length (sym c.as_slice-others.ensures) ∙ length-map c.as_slice-others.result.now part in
    parts_differ (parts c.args.first.now) (parts c.args.second.now) (λ e. c.if-fields-others.true (sym f ∙ e ∙ g))

pub same_fields-same_type-requires : goal.same_fields-same_type-requires
same_fields-same_type-requires t c =
    let listed = c.as_slice-fields.result.now in
    let f = c.index-fields-i-else-ne.result in
    let i = c.loop-i.i in
    let within : i < length listed = c.loop-i-test.true in
    let light : weight (kind_of f.dtype) ≤ weights (parts_of (map part listed)) = weight_at (map part listed) i (part f) (rw length-map within) (sym (get_or-map part listed i f (part f) within ∙ ap part (sym c.index-fields-i-else-ne.is))) in
    let same : weights (parts_of (map part listed)) ≡ weights (parts_of (parts c.args.first.now)) = ap (λ ps. weights (parts_of ps)) c.as_slice-fields.ensures in
    let at : weight (kind_of (get_or listed i f).dtype) ≡ weight (kind_of f.dtype) = ap (λ x. weight (kind_of x.dtype)) (sym c.index-fields-i-else-ne.is) in
    (omega (arith, light, same, at, c.decreases), tt)
