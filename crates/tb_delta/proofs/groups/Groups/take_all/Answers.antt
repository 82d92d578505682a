use Rattle.std.proofs.Common.{rules, ◌≡◌, ◌∙◌, ap, sym, subst, refl, Some, None, [], if◌then◌else◌}
use Rattle.std.specs.Prelude.{IsSome}
use Rattle.std.specs.BTreeMap.{get_by}
use Rattle.tb_delta.specs.Groups.{ids_at, ids_in, is_side, key_cmp}
use Rattle.tb_delta.proofs.Grouped.{absent, changed}
use Rattle.tb_delta.proofs.groups.Groups.take_all.Goals as goal

pub returns-in-Some-clause-taken : goal.returns-in-Some-clause-taken
returns-in-Some-clause-taken c =
    let found : get_by (key_cmp c.args.key.now) c.args.self.now.groups ≡ Some c.in-Some.group.now = search rules in
    c.take_all.ensures.taken ∙ ap (ids_in c.args.side) (sym found)

pub returns-in-Some-clause-others : goal.returns-in-Some-clause-others
returns-in-Some-clause-others c = λ s k.
    let found : get_by (key_cmp c.args.key.now) c.args.self.now.groups ≡ Some c.in-Some.group.now = search rules in
    let there : IsSome (get_by (key_cmp c.args.key.now) c.args.self.now.groups) = subst IsSome (sym found) refl in
    changed c.args.self.now (record { groups = c.get_mut.follows.lender c.take_all.new.self }) c.args.key.now k c.take_all.new.self s c.args.side (λ ids. [])
    (((c.get_mut.follows.holds c.take_all.new.self).3 there).0 k)
    (c.take_all.ensures.others s ∙ ap (λ o. if is_side c.args.side s then [] else ids_in s o) (sym found))

pub returns-in-None-clause-taken : goal.returns-in-None-clause-taken
returns-in-None-clause-taken c =
    let none : get_by (key_cmp c.args.key.now) c.args.self.now.groups ≡ None = search rules in
    let empty : c.new.result.items ≡ [] = search rules in
    empty ∙ sym (ap (ids_in c.args.side) none)

pub returns-in-None-clause-others : goal.returns-in-None-clause-others
returns-in-None-clause-others c = λ s k.
    let none : get_by (key_cmp c.args.key.now) c.args.self.now.groups ≡ None = search rules in
    ap (λ m. ids_at (record { groups = m }) s k) c.get_mut.follows.holds-at-none
    ∙ absent c.args.self.now c.args.key.now k s c.args.side (λ ids. []) refl none
