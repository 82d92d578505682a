use Rattle.std.proofs.Common.{arith, option_map, ap, sym, subst, ◌∙◌}
use Rattle.tb_tree.specs.View.{item_view, listed}
use Rattle.tb_why.specs.Requests.{entry_spot}
use Rattle.tb_why.specs.Spots.{first_at, spot_view, Finds}
use Rattle.tb_why.proofs.Walks.{Walk-next, Walk-found}
use Rattle.tb_why.proofs.requests.each_entry_spot.Goals as goal

pub returns-in-Some : goal.returns-in-Some
returns-in-Some c =
    let f = entry_spot c.args.format c.args.reason in
    let found = sym c.in_ok-spot.ensures ∙ ap (option_map spot_view) c.in-Some.is in
    let first = Walk-found f (listed c.items-entries.result) c.loop-i.i (item_view c.at-entry.result) (spot_view c.in-Some.spot) (omega arith) c.at-entry.ensures found c.loop-i.invariant in
    subst (Finds c.under_index.result) (first ∙ ap (first_at f 0) c.items-entries.ensures) c.under_index.ensures

pub loop-i-preserved : goal.loop-i-preserved
loop-i-preserved c =
    let f = entry_spot c.args.format c.args.reason in
    let none = sym c.in_ok-spot.ensures ∙ ap (option_map spot_view) c.in_default.is in
    Walk-next f (listed c.items-entries.result) c.loop-i.i (item_view c.at-entry.result) (omega arith) c.at-entry.ensures none c.loop-i.invariant
