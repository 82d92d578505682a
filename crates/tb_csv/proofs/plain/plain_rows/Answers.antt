use Rattle.std.proofs.Common.{refl}
use Rattle.tb_csv.proofs.PlainWalks.{all_rows, no_row, row_more}
use Rattle.tb_csv.proofs.plain.plain_rows.Goals as goal

pub loop-place-init : goal.loop-place-init
loop-place-init c =
    no_row c.args.separator c.args.width c.args.text.now c.next_row-place.result c.new-spans.result.items c.new-spans.ensures.items c.next_row-place.ensures.start c.next_row-place.ensures.within

pub loop-place-preserved : goal.loop-place-preserved
loop-place-preserved c =
    row_more c.args.separator c.args.width c.args.text.now c.loop-place.place c.in-Some.behind c.next_row-place-in-loop-place.result c.loop-place.height c.loop-place.spans.items c.push_row.new.spans.items
    c.requires c.loop-place-test.true c.loop-place.invariant (rw c.in-Some.is at c.in_ok-behind.ensures.row) c.next_row-place-in-loop-place.ensures.start c.next_row-place-in-loop-place.ensures.within

pub returns : goal.returns
returns c = all_rows c.args.separator c.args.width c.args.text.now c.loop-place.place _ refl c.loop-place-test.false c.loop-place.invariant
