use Rattle.std.proofs.Common.{arith, map, option_map, ap, sym, subst, ◌∙◌}
use Rattle.tb_tree.specs.View.{item_view, listed}
use Rattle.tb_why.specs.Columns.{column_spot}
use Rattle.tb_why.specs.Spots.{first_at, spot_view, Finds}
use Rattle.tb_why.proofs.Walks.{Walk-next, Walk-found}
use Rattle.tb_why.proofs.columns.single_spot.Goals as goal

pub returns-in-Some : goal.returns-in-Some
returns-in-Some c =
    let f = column_spot c.args.format c.args.reason c.height-height.result in
    let columns = listed c.args.columns in
    let found = sym c.in_ok-spot.ensures ∙ ap (option_map spot_view) c.in-Some.is in
    let first = Walk-found f columns c.loop-i.i (item_view c.at-column.result) (spot_view c.in-Some.spot) (omega arith) c.at-column.ensures found c.loop-i.invariant in
    let level = ap (λ h. first_at (column_spot c.args.format c.args.reason h) 0 columns) c.height-height.ensures in
    subst (Finds c.under_index.result) (first ∙ level) c.under_index.ensures

pub loop-i-preserved : goal.loop-i-preserved
loop-i-preserved c =
    let f = column_spot c.args.format c.args.reason c.height-height.result in
    let none = sym c.in_ok-spot.ensures ∙ ap (option_map spot_view) c.in_default.is in
    Walk-next f (listed c.args.columns) c.loop-i.i (item_view c.at-column.result) (omega arith) c.at-column.ensures none c.loop-i.invariant
