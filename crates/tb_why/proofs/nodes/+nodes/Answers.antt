use Rattle.std.proofs.Common.{◌∙◌, option_map, sym, ap, subst, arith}
use Rattle.tb_tree.specs.View.{item_view}
use Rattle.tb_plan_request.proofs.NodeMembers.{get-depth}
use Rattle.tb_why.specs.Members.{has_any}
use Rattle.tb_why.specs.Spots.{spot_view, Finds}
use Rattle.tb_why.proofs.NodeParts.{filter_input, left_found, right_node}
use Rattle.tb_why.proofs.nodes.+nodes.Goals as goal

pub node_in-node_spot-requires : goal.node_in-node_spot-requires
node_in-node_spot-requires t c =
    (omega (arith, get-depth c.args.name.now (item_view c.args.node) (item_view c.in-Some.value) (sym c.in-Some.ensures)), tt)

pub node_spot-returns-in-None : goal.node_spot-returns-in-None
node_spot-returns-in-None t c =
    let d = item_view c.args.node in
    let is = ap (λ ks. has_any ks d) (sym c.filter_members.ensures) ∙ sym c.has_any.ensures ∙ c.if-has_any.true in
    let none = sym c.in_ok-spot.ensures ∙ ap (option_map spot_view) c.in-None.is in
    subst (Finds c.node_in.result) (filter_input d is none) c.node_in.ensures

pub node_spot-returns-in-Some-3 : goal.node_spot-returns-in-Some-3
node_spot-returns-in-Some-3 t c =
    let d = item_view c.args.node in
    let other = ap (λ ks. has_any ks d) (sym c.filter_members.ensures) ∙ sym c.has_any.ensures ∙ c.if-has_any.false in
    let is = ap (λ ks. has_any ks d) (sym c.join_node_members.ensures) ∙ sym c.has_any-2.ensures ∙ c.if-has_any-2.true in
    let none = sym c.in_ok-spot-2.ensures ∙ ap (option_map spot_view) c.in_default.is in
    let found = sym c.in_ok-spot-3.ensures ∙ ap (option_map spot_view) c.in-Some-3.is in
    left_found d (spot_view c.in-Some-3.spot) other is none found

pub node_spot-returns-in-None-2 : goal.node_spot-returns-in-None-2
node_spot-returns-in-None-2 t c =
    let d = item_view c.args.node in
    let other = ap (λ ks. has_any ks d) (sym c.filter_members.ensures) ∙ sym c.has_any.ensures ∙ c.if-has_any.false in
    let is = ap (λ ks. has_any ks d) (sym c.join_node_members.ensures) ∙ sym c.has_any-2.ensures ∙ c.if-has_any-2.true in
    let none = sym c.in_ok-spot-2.ensures ∙ ap (option_map spot_view) c.in_default.is in
    let passes = sym c.in_ok-spot-3.ensures ∙ ap (option_map spot_view) c.in-None-2.is in
    subst (Finds c.node_in-in-None-2.result) (right_node d other is none passes) c.node_in-in-None-2.ensures
