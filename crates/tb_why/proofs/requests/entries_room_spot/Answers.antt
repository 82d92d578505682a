use Rattle.std.proofs.Common.{arith, option_map, ap, sym, subst, ◌∙◌}
use Rattle.tb_tree.specs.View.{item_view, listed}
use Rattle.tb_why.specs.Requests.{entry_room_spot, entry_rows}
use Rattle.tb_why.specs.Spots.{first_in_room, spot_view, Finds}
use Rattle.tb_why.proofs.Walks.{RoomWalk-next, RoomWalk-found}
use Rattle.tb_why.proofs.requests.entries_room_spot.Goals as goal

pub returns-in-Some : goal.returns-in-Some
returns-in-Some c =
    let found = sym c.in_ok-spot.ensures ∙ ap (option_map spot_view) c.in-Some.is in
    let first = RoomWalk-found entry_rows entry_room_spot c.args.room (listed c.items-entries.result) c.loop-i.i c.loop-i.left (item_view c.at-entry.result) (spot_view c.in-Some.spot) (omega arith) c.at-entry.ensures found c.loop-i.invariant in
    subst (Finds c.under_index.result) (first ∙ ap (first_in_room entry_rows entry_room_spot c.args.room 0) c.items-entries.ensures) c.under_index.ensures

pub loop-i-preserved : goal.loop-i-preserved
loop-i-preserved c =
    let none = sym c.in_ok-spot.ensures ∙ ap (option_map spot_view) c.in_default.is in
    rw c.room_after_entry-left.ensures (RoomWalk-next entry_rows entry_room_spot c.args.room (listed c.items-entries.result) c.loop-i.i c.loop-i.left (item_view c.at-entry.result) (omega arith) c.at-entry.ensures none c.loop-i.invariant)
