use Rattle.std.proofs.Common.{arith, option_map, ap, sym, subst, ◌∙◌}
use Rattle.tb_tree.specs.View.{item_view, listed}
use Rattle.tb_request.specs.declared.shape.Format.TheVariants.{Runs}
use Rattle.tb_why.specs.Columns.{column_room_spot, count_at}
use Rattle.tb_why.specs.Spots.{spot_view, Finds}
use Rattle.tb_why.proofs.Walks.{RoomWalk-next, RoomWalk-found}
use Rattle.tb_why.proofs.room.columns_room_spot.Goals as goal

pub returns-in-Some : goal.returns-in-Some
returns-in-Some c =
    let found = sym c.in_ok-spot.ensures ∙ ap (option_map spot_view) c.in-Some.is in
    let first = RoomWalk-found (count_at Runs) column_room_spot c.args.room (listed c.args.columns) c.loop-i.i c.loop-i.left (item_view c.at-column.result) (spot_view c.in-Some.spot) (omega arith) c.at-column.ensures found c.loop-i.invariant in
    subst (Finds c.under_index.result) first c.under_index.ensures

pub loop-i-preserved : goal.loop-i-preserved
loop-i-preserved c =
    let none = sym c.in_ok-spot.ensures ∙ ap (option_map spot_view) c.in_default.is in
    rw (c.saturating_sub-left.ensures, c.count_at.ensures) (RoomWalk-next (count_at Runs) column_room_spot c.args.room (listed c.args.columns) c.loop-i.i c.loop-i.left (item_view c.at-column.result) (omega arith) c.at-column.ensures none c.loop-i.invariant)
