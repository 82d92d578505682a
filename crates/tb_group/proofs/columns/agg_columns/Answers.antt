use Rattle.std.proofs.Common.{◌∙◌, List, arith, get_or, length, map, sym}
use Rattle.std.proofs.lemmas.Result.{err_from_is_err_and}
use Rattle.tb_frame.specs.Promise.Table.{plain_column}
use Rattle.tb_group.specs.Asked.{asked_list}
use Rattle.tb_group.specs.Parts.{PartView, shown_part}
use Rattle.tb_group.specs.Whole.{cause_at, placed_at}
use Rattle.tb_group.proofs.Causes.{none_more, onward, stops_at}
use Rattle.tb_group.proofs.KeptColumns.{can_be, cause_seen, placed_seen, seat_low}
use Rattle.tb_group.proofs.Pieces.{made_more}
use Rattle.tb_group.proofs.columns.agg_columns.Goals as goal

pub bounds-made-seat : goal.bounds-made-seat
bounds-made-seat c =
    seat_low c.args.made.now c.args.seats.now (map shown_part c.args.parts.now) c.args.places.now c.loop-place.place
    (omega (arith, c.requires.long, c.loop-place-test.true)) c.requires.whole

pub agg_column-requires : goal.agg_column-requires
agg_column-requires c =
    let views : List PartView = map shown_part c.args.parts.now in
    let seats = c.args.seats.now in
    let made = c.args.made.now in
    let k = c.loop-place.place in
    let there = seat_low made seats views c.args.places.now k (omega (arith, c.requires.long, c.loop-place-test.true)) c.requires.whole in
    can_be made seats views c.args.places.now (get_or seats k 0) c.index-made-seat.result there c.index-made-seat.is c.requires.whole

pub returns-in_err-column-clause-settles : goal.returns-in_err-column-clause-settles
returns-in_err-column-clause-settles c =
    let asked = c.args.asked.now in
    let made = c.args.made.now in
    let seats = c.args.seats.now in
    let places = c.args.places.now in
    let views : List PartView = map shown_part c.args.parts.now in
    let k = c.loop-place.place in
    let there = seat_low made seats views places k (omega (arith, c.requires.long, c.loop-place-test.true)) c.requires.whole in
    let same = cause_seen asked made seats views places k c.index-asked-place.result c.index-made-seat.result c.loop-place-test.true c.index-asked-place.is there c.index-made-seat.is in
    let p = err_from_is_err_and c.from_residual.result c.from_residual.ensures.1 in
    rw (p.1, p.2)
    (stops_at (cause_at (asked_list asked) (asked_list made) seats views places) k (length asked) _ c.loop-place.invariant.none c.loop-place-test.true
    (onward _ _ (cause_at (asked_list asked) (asked_list made) seats views places k) same c.in_err-column.ensures.settles))

pub loop-place-preserved : goal.loop-place-preserved
loop-place-preserved c =
    let asked = c.args.asked.now in
    let made = c.args.made.now in
    let seats = c.args.seats.now in
    let places = c.args.places.now in
    let views : List PartView = map shown_part c.args.parts.now in
    let k = c.loop-place.place in
    let r = c.index-asked-place.result in
    let m = c.index-made-seat.result in
    let there = seat_low made seats views places k (omega (arith, c.requires.long, c.loop-place-test.true)) c.requires.whole in
    record {
      none = none_more (cause_at (asked_list asked) (asked_list made) seats views places) k c.loop-place.invariant.none
          (cause_seen asked made seats views places k r m c.loop-place-test.true c.index-asked-place.is there c.index-made-seat.is ∙ c.in_ok-column.ensures.settles);
      columns = made_more plain_column (placed_at (asked_list asked) (asked_list made) seats views places) c.loop-place.columns.items _ k c.in_ok-column.column c.in_ok-push_column.ensures
          (c.in_ok-column.ensures.column ∙ sym (placed_seen asked made seats views places k r m c.loop-place-test.true c.index-asked-place.is there c.index-made-seat.is)) c.loop-place.invariant.columns;
    }
