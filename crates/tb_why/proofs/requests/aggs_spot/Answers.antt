use Rattle.std.proofs.Common.{arith, option_map, ap, sym, subst, ◌∙◌}
use Rattle.tb_tree.specs.View.{item_view, listed}
use Rattle.tb_group_request.specs.Promise.Members.{agg_members}
use Rattle.tb_why.specs.Members.{members_spot}
use Rattle.tb_why.specs.Spots.{first_at, spot_view, Finds}
use Rattle.tb_why.proofs.Walks.{Walk-next, Walk-found}
use Rattle.tb_why.proofs.requests.aggs_spot.Goals as goal

pub returns-in-Some : goal.returns-in-Some
returns-in-Some c =
    let f = members_spot agg_members in
    let agg = item_view c.at-agg.result in
    let found = ap (λ ks. members_spot ks agg) (sym c.agg_members.ensures) ∙ sym c.in_ok-spot.ensures ∙ ap (option_map spot_view) c.in-Some.is in
    let first = Walk-found f (listed c.items-aggs.result) c.loop-i.i agg (spot_view c.in-Some.spot) (omega arith) c.at-agg.ensures found c.loop-i.invariant in
    subst (Finds c.under_index.result) (first ∙ ap (first_at f 0) c.items-aggs.ensures) c.under_index.ensures

pub loop-i-preserved : goal.loop-i-preserved
loop-i-preserved c =
    let f = members_spot agg_members in
    let agg = item_view c.at-agg.result in
    let none = ap (λ ks. members_spot ks agg) (sym c.agg_members.ensures) ∙ sym c.in_ok-spot.ensures ∙ ap (option_map spot_view) c.in_default.is in
    Walk-next f (listed c.items-aggs.result) c.loop-i.i agg (omega arith) c.at-agg.ensures none c.loop-i.invariant
