use Rattle.std.proofs.Common.{◌≡◌, Some}
use Rattle.tb_csv.proofs.TextWalks.{line_end, line_more, name_in, names_in}
use Rattle.tb_csv.proofs.text.push_names.Goals as goal

pub loop-place-preserved : goal.loop-place-preserved
loop-place-preserved c =
    let named : Some c.as_bytes.result.now ≡ name_in c.index-columns-place.result = cc c.as_bytes.ensures.value in
    line_more c.args.separator name_in c.args.columns.now c.loop-place.place c.index-columns-place.result _ _ _ _ _ c.loop-place-test.true c.index-columns-place.is
    named c.in_ok-push_gap.ensures c.in_ok-push_field.ensures c.loop-place.invariant

pub returns : goal.returns
returns c = line_end c.args.separator name_in c.args.columns.now c.loop-place.place _ _ _ _ c.loop-place-test.false (names_in c.args.columns.now) c.in_ok-push.ensures.items c.loop-place.invariant
