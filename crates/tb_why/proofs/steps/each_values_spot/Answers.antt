use Rattle.std.proofs.Common.{arith, option_map, ap, sym, subst, ◌∙◌}
use Rattle.tb_tree.specs.View.{item_view, listed}
use Rattle.tb_why.specs.Lent.{kinds_of}
use Rattle.tb_why.specs.Steps.{step_values_spot}
use Rattle.tb_why.specs.Spots.{spot_view, Finds}
use Rattle.tb_why.proofs.Walks.{Walk-next, Walk-found}
use Rattle.tb_why.proofs.steps.each_values_spot.Goals as goal

pub returns-in-Some : goal.returns-in-Some
returns-in-Some c =
    let f = step_values_spot (kinds_of c.args.types.now.left) (kinds_of c.args.types.now.right) in
    let found = sym c.in_ok-spot.ensures ∙ ap (option_map spot_view) c.in-Some.is in
    let first = Walk-found f (listed c.args.steps) c.loop-i.i (item_view c.at-step.result) (spot_view c.in-Some.spot) (omega arith) c.at-step.ensures found c.loop-i.invariant in
    subst (Finds c.under_index.result) first c.under_index.ensures

pub loop-i-preserved : goal.loop-i-preserved
loop-i-preserved c =
    let f = step_values_spot (kinds_of c.args.types.now.left) (kinds_of c.args.types.now.right) in
    let none = sym c.in_ok-spot.ensures ∙ ap (option_map spot_view) c.in_default.is in
    Walk-next f (listed c.args.steps) c.loop-i.i (item_view c.at-step.result) (omega arith) c.at-step.ensures none c.loop-i.invariant
