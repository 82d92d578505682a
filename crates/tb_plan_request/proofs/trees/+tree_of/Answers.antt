use Rattle.std.proofs.Common.{codes, true, false, sym, arith}
use Rattle.tb_tree.specs.View.{view}
use Rattle.tb_plan_request.specs.Promise.Members.{filter_members, join_node_members, table_node_members}
use Rattle.tb_plan_request.proofs.ByMembers.{has_these, no_input, no_left, no_right, some_input, some_inputs}
use Rattle.tb_plan_request.proofs.NodeMembers.{get-depth}
use Rattle.tb_plan_request.proofs.trees.+tree_of.Goals as goal

pub returns-in_default : goal.returns-in_default
returns-in_default t c =
    let d = view c.args.value.now in
    let other = has_these _ table_node_members d _ false c.table_node_members.ensures c.has_only.ensures c.if-has_only.false in
    let is = has_these _ filter_members d _ true c.filter_members.ensures c.has_only-2.ensures c.if-has_only-2.true in
    no_input d other is (sym c.in_default.ensures)

pub tree_of-requires : goal.tree_of-requires
tree_of-requires t c =
    (omega (arith, c.decreases, get-depth (codes "input") (view c.args.value.now) (view c.in-Some.input.now) (sym c.in-Some.ensures)), tt)

pub returns-then-has_only-2 : goal.returns-then-has_only-2
returns-then-has_only-2 t c =
    let d = view c.args.value.now in
    let other = has_these _ table_node_members d _ false c.table_node_members.ensures c.has_only.ensures c.if-has_only.false in
    let is = has_these _ filter_members d _ true c.filter_members.ensures c.has_only-2.ensures c.if-has_only-2.true in
    rw (some_input d (view c.in-Some.input.now) _ other is (sym c.in-Some.ensures) c.in_ok-input.ensures) c.filter_from.ensures

pub returns-in_default-get : goal.returns-in_default-get
returns-in_default-get t c =
    let d = view c.args.value.now in
    let other = has_these _ table_node_members d _ false c.table_node_members.ensures c.has_only.ensures c.if-has_only.false in
    let another = has_these _ filter_members d _ false c.filter_members.ensures c.has_only-2.ensures c.if-has_only-2.false in
    let is = has_these _ join_node_members d _ true c.join_node_members.ensures c.has_only-3.ensures c.if-has_only-3.true in
    no_left d other another is (sym c.in_default-get.ensures)

pub returns-in_default-get-2 : goal.returns-in_default-get-2
returns-in_default-get-2 t c =
    let d = view c.args.value.now in
    let other = has_these _ table_node_members d _ false c.table_node_members.ensures c.has_only.ensures c.if-has_only.false in
    let another = has_these _ filter_members d _ false c.filter_members.ensures c.has_only-2.ensures c.if-has_only-2.false in
    let is = has_these _ join_node_members d _ true c.join_node_members.ensures c.has_only-3.ensures c.if-has_only-3.true in
    no_right d other another is (sym c.in_default-get-2.ensures)

pub tree_of-requires-then-has_only-3 : goal.tree_of-requires-then-has_only-3
tree_of-requires-then-has_only-3 t c =
    (omega (arith, c.decreases, get-depth (codes "left") (view c.args.value.now) (view c.in-Some-get.left.now) (sym c.in-Some-get.ensures)), tt)

pub tree_of-requires-then-has_only-3-2 : goal.tree_of-requires-then-has_only-3-2
tree_of-requires-then-has_only-3-2 t c =
    (omega (arith, c.decreases, get-depth (codes "right") (view c.args.value.now) (view c.in-Some-get-2.right.now) (sym c.in-Some-get-2.ensures)), tt)

pub returns-then-has_only-3 : goal.returns-then-has_only-3
returns-then-has_only-3 t c =
    let d = view c.args.value.now in
    let other = has_these _ table_node_members d _ false c.table_node_members.ensures c.has_only.ensures c.if-has_only.false in
    let another = has_these _ filter_members d _ false c.filter_members.ensures c.has_only-2.ensures c.if-has_only-2.false in
    let is = has_these _ join_node_members d _ true c.join_node_members.ensures c.has_only-3.ensures c.if-has_only-3.true in
    rw (some_inputs d (view c.in-Some-get.left.now) (view c.in-Some-get-2.right.now) _ _ other another is
    (sym c.in-Some-get.ensures) (sym c.in-Some-get-2.ensures) c.in_ok-left.ensures c.in_ok-right.ensures) c.join_from.ensures
