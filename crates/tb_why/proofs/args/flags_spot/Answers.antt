use Rattle.std.proofs.Common.{arith, option_map, ap, sym, subst, ◌∙◌}
use Rattle.tb_tree.specs.View.{item_view, listed}
use Rattle.tb_why.specs.Arguments.{flag_spot}
use Rattle.tb_why.specs.Spots.{first_at, spot_view, Finds}
use Rattle.tb_why.proofs.Walks.{Walk-next, Walk-found}
use Rattle.tb_why.proofs.args.flags_spot.Goals as goal

pub returns-in-Some : goal.returns-in-Some
returns-in-Some c =
    let found = sym c.flag_spot.ensures ∙ ap (option_map spot_view) c.in-Some.is in
    let first = Walk-found flag_spot (listed c.items-flags.result) c.loop-i.i (item_view c.at-flag.result) (spot_view c.in-Some.spot) (omega arith) c.at-flag.ensures found c.loop-i.invariant in
    subst (Finds c.under_index.result) (first ∙ ap (first_at flag_spot 0) c.items-flags.ensures) c.under_index.ensures

pub loop-i-preserved : goal.loop-i-preserved
loop-i-preserved c =
    let none = sym c.flag_spot.ensures ∙ ap (option_map spot_view) c.in_default.is in
    Walk-next flag_spot (listed c.items-flags.result) c.loop-i.i (item_view c.at-flag.result) (omega arith) c.at-flag.ensures none c.loop-i.invariant
