use Rattle.std.proofs.Common.{length, refl}
use Rattle.tb_csv.proofs.TextWalks.{field_in, line_end, line_more, row_in}
use Rattle.tb_csv.proofs.text.push_row.Goals as goal

pub loop-place-preserved : goal.loop-place-preserved
loop-place-preserved c =
    let columns = c.args.columns.now in
    line_more c.args.separator (field_in (length columns) c.args.index) columns c.loop-place.place c.index-columns-place.result _ _ _ _ _ c.loop-place-test.true c.index-columns-place.is
    refl c.in_ok-push_gap.ensures c.in_ok-push_row_field.ensures c.loop-place.invariant

pub returns : goal.returns
returns c = line_end c.args.separator (field_in (length c.args.columns.now) c.args.index) c.args.columns.now c.loop-place.place _ _ _ _ c.loop-place-test.false (row_in c.args.columns.now c.args.index) c.in_ok-push.ensures.items c.loop-place.invariant
