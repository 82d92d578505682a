use Rattle.std.proofs.Common.{rules, ◌≡◌, ◌∙◌, ap, sym, subst, refl, Some, None, if◌then◌else◌}
use Rattle.std.specs.Prelude.{IsSome}
use Rattle.std.specs.BTreeMap.{get_by}
use Rattle.tb_delta.specs.Groups.{ids_at, ids_in, is_side, key_cmp, without_all, IsAscending}
use Rattle.tb_delta.proofs.Grouped.{absent, changed, emptied}
use Rattle.tb_delta.specs.declared.groups.Groups.{Groups}
use Rattle.tb_delta.proofs.groups.Groups.take_out.Goals as goal

pub take_out-requires-clause-ascend : goal.take_out-requires-clause-ascend
take_out-requires-clause-ascend c =
    let found : get_by (key_cmp c.args.key.now) c.args.self.now.groups ≡ Some c.in-Some.group.now = search rules in
    subst (λ o. IsAscending (ids_in c.args.side o)) found (c.requires.ascend c.args.side c.args.key.now)

pub returns-else-is_empty : goal.returns-else-is_empty
returns-else-is_empty c = λ s k.
    let found : get_by (key_cmp c.args.key.now) c.args.self.now.groups ≡ Some c.in-Some.group.now = search rules in
    let there : IsSome (get_by (key_cmp c.args.key.now) c.args.self.now.groups) = subst IsSome (sym found) refl in
    let wrote = c.get_mut.follows.holds c.take_out.new.self in
    changed c.args.self.now (record { groups = c.get_mut.follows.lender c.take_out.new.self }) c.args.key.now k c.take_out.new.self s c.args.side (without_all c.args.gone.now)
    ((wrote.3 there).0 k)
    (c.take_out.ensures s ∙ ap (λ o. if is_side c.args.side s then without_all c.args.gone.now (ids_in s o) else ids_in s o) (sym found))

pub returns-then-is_empty : goal.returns-then-is_empty
returns-then-is_empty c = λ s k.
    let found : get_by (key_cmp c.args.key.now) c.args.self.now.groups ≡ Some c.in-Some.group.now = search rules in
    let there : IsSome (get_by (key_cmp c.args.key.now) c.args.self.now.groups) = subst IsSome (sym found) refl in
    let wrote = c.get_mut.follows.holds c.take_out.new.self in
    let lent : Groups = record { groups = c.get_mut.follows.lender c.take_out.new.self } in
    let written : get_by (key_cmp c.args.key.now) lent.groups ≡ Some c.take_out.new.self = (wrote.3 there).1 in
    emptied lent (record { groups = c.remove.new.self }) c.args.key.now k c.take_out.new.self s (c.remove.ensures.updates.0 k) written (c.is_empty.ensures c.if-is_empty.true s)
    ∙ changed c.args.self.now (record { groups = c.get_mut.follows.lender c.take_out.new.self }) c.args.key.now k c.take_out.new.self s c.args.side (without_all c.args.gone.now)
    ((wrote.3 there).0 k)
    (c.take_out.ensures s ∙ ap (λ o. if is_side c.args.side s then without_all c.args.gone.now (ids_in s o) else ids_in s o) (sym found))

pub returns-in_default : goal.returns-in_default
returns-in_default c = λ s k.
    let none : get_by (key_cmp c.args.key.now) c.args.self.now.groups ≡ None = search rules in
    ap (λ m. ids_at (record { groups = m }) s k) c.get_mut.follows.holds-at-none
    ∙ absent c.args.self.now c.args.key.now k s c.args.side (without_all c.args.gone.now) refl none
