use Rattle.std.proofs.Common.{arith, option_map, ap, sym, subst, ◌∙◌}
use Rattle.tb_tree.specs.View.{item_view, listed}
use Rattle.tb_why.specs.Columns.{run_room_spot, times_at}
use Rattle.tb_why.specs.Spots.{first_in_room, spot_view, Finds}
use Rattle.tb_why.proofs.Walks.{RoomWalk-next, RoomWalk-found}
use Rattle.tb_why.proofs.room.runs_room_spot.Goals as goal

pub returns-in-Some : goal.returns-in-Some
returns-in-Some c =
    let found = sym c.run_room_spot.ensures ∙ ap (option_map spot_view) c.in-Some.is in
    let first = RoomWalk-found times_at run_room_spot c.args.room (listed c.items-runs.result) c.loop-i.i c.loop-i.left (item_view c.at-run.result) (spot_view c.in-Some.spot) (omega arith) c.at-run.ensures found c.loop-i.invariant in
    subst (Finds c.under_index.result) (first ∙ ap (first_in_room times_at run_room_spot c.args.room 0) c.items-runs.ensures) c.under_index.ensures

pub loop-i-preserved : goal.loop-i-preserved
loop-i-preserved c =
    let none = sym c.run_room_spot.ensures ∙ ap (option_map spot_view) c.in_default.is in
    rw (c.saturating_sub-left.ensures, c.times_at.ensures) (RoomWalk-next times_at run_room_spot c.args.room (listed c.items-runs.result) c.loop-i.i c.loop-i.left (item_view c.at-run.result) (omega arith) c.at-run.ensures none c.loop-i.invariant)
