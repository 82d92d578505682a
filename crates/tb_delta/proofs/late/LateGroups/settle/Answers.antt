use Rattle.std.proofs.Common.{rules, ◌≡◌, ◌∙◌, ◌&&◌, [], true, arith, ap, sym}
use Rattle.tb_value.specs.See.{datum}
use Rattle.tb_delta.specs.Groups.{ids_at, is_side, ties}
use Rattle.std.specs.Bool.{◌==◌}
use Rattle.std.specs.Vec.{vec_len}
use Rattle.tb_delta.proofs.LateGroups.{here, no_items, settled_here, settles}
use Rattle.tb_delta.proofs.LateIds.{untaken}
use Rattle.tb_delta.proofs.late.LateGroups.settle.Goals as goal

pub returns-then-is_empty-clause-keeps : goal.returns-then-is_empty-clause-keeps
returns-then-is_empty-clause-keeps c =
    let empty : (vec_len c.take_all-gone.result == 0) ≡ true = sym c.is_empty.ensures ∙ c.if-is_empty.true in
    let none : c.take_all-gone.result.items ≡ [] = no_items c.take_all-gone.result.items (grind (arith, empty, c.take_all-gone.result.ok.0)) in
    settles c.args.self.now c.args.self.now.groups c.take_all-gone.new.self c.args.side c.args.key.now c.take_all-gone.result.items c.requires c.take_all-gone.ensures.taken c.take_all-gone.ensures.others
    (λ s k. untaken (is_side c.args.side s && ties (datum c.args.key.now.value) (datum k.value)) c.take_all-gone.result.items (ids_at c.args.self.now.groups s k) none)

pub returns-then-is_empty-clause-settled : goal.returns-then-is_empty-clause-settled
returns-then-is_empty-clause-settled c =
    let empty : (vec_len c.take_all-gone.result == 0) ≡ true = sym c.is_empty.ensures ∙ c.if-is_empty.true in
    let none : c.take_all-gone.result.items ≡ [] = no_items c.take_all-gone.result.items (grind (arith, empty, c.take_all-gone.result.ok.0)) in
    settled_here c.args.self.now c.args.self.now.groups c.args.side c.args.key.now c.take_all-gone.result.items c.take_all-gone.ensures.taken
    (untaken (is_side c.args.side c.args.side && ties (datum c.args.key.now.value) (datum c.args.key.now.value)) c.take_all-gone.result.items (ids_at c.args.self.now.groups c.args.side c.args.key.now) none)
    (here c.args.side c.args.key.now)

pub returns-clause-keeps : goal.returns-clause-keeps
returns-clause-keeps c =
    settles c.args.self.now c.take_list_out.new.self c.take_all-gone.new.self c.args.side c.args.key.now c.take_all-gone.result.items c.requires c.take_all-gone.ensures.taken c.take_all-gone.ensures.others c.take_list_out.ensures

pub returns-clause-settled : goal.returns-clause-settled
returns-clause-settled c =
    settled_here c.args.self.now c.take_list_out.new.self c.args.side c.args.key.now c.take_all-gone.result.items c.take_all-gone.ensures.taken
    (c.take_list_out.ensures c.args.side c.args.key.now) (here c.args.side c.args.key.now)
