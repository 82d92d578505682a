use Rattle.std.proofs.Common.{List, map, arith, ap}
use Rattle.std.proofs.lemmas.List.{length-map}
use Rattle.tb_value.specs.Promise.Datum.{Datum, items_of, weight, weights}
use Rattle.tb_value.specs.See.{datum}
use Rattle.tb_value.specs.SeeKind.{part}
use Rattle.tb_value.proofs.Lengths.{AreEachOf-length, item_lighter}
use Rattle.tb_value.proofs.typed.+is_of.Goals as goal

pub fits_fields-returns-then-fields-values : goal.fits_fields-returns-then-fields-values
fits_fields-returns-then-fields-values t c = (
  λ h. absurd (cc),
  λ h.
      let e = AreEachOf-length (map part c.args.fields.now) (map datum c.args.values.now) h in
      absurd (c.if-fields-values.true (omega (arith, e, length-map c.args.fields.now part, length-map c.args.values.now datum))),
)

pub are_of-is_of-requires : goal.are_of-is_of-requires
are_of-is_of-requires t c =
    let items = c.as_slice-value-items.result.now in
    let i = c.loop-value.value-index in
    let v = c.value-item.result in
    (omega (arith, c.decreases, ap (λ (vs : List Datum). weights (items_of vs)) c.as_slice-value-items.ensures, ap (λ x. weight (datum x)) c.value-item.is, item_lighter items i v c.loop-value-test.true), tt)

pub fits_fields-is_of-requires : goal.fits_fields-is_of-requires
fits_fields-is_of-requires t c =
    let i = c.loop-i.i in
    let v = c.index-values-i.result in
    (omega (arith, c.decreases, ap (λ x. weight (datum x)) c.index-values-i.is, item_lighter c.args.values.now i v (omega (arith, c.loop-i-test.true, c.if-fields-values.false))), tt)
