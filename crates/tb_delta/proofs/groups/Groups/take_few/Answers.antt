use Rattle.std.proofs.Common.{rules, ◌≡◌, ◌∙◌, ◌∷◌, [], ap, true, sym, subst, refl, Some, None, if◌then◌else◌}
use Rattle.std.specs.Prelude.{IsSome}
use Rattle.std.specs.BTreeMap.{get_by}
use Rattle.tb_delta.specs.Groups.{ids_at, ids_in, is_side, key_cmp, without_all, without_where, IsAscending}
use Rattle.tb_delta.proofs.Grouped.{absent, changed, emptied}
use Rattle.tb_delta.specs.declared.groups.Groups.{Groups}
use Rattle.tb_delta.proofs.groups.Groups.take_few.Goals as goal

pub take_few-taken-requires : goal.take_few-taken-requires
take_few-taken-requires c =
    let found : get_by (key_cmp c.args.key.now) c.args.self.now.groups ≡ Some c.in-Some.group.now = search rules in
    subst (λ o. IsAscending (ids_in c.args.side o)) found (c.requires c.args.side c.args.key.now)

pub returns-in_default-clause-ids : goal.returns-in_default-clause-ids
returns-in_default-clause-ids c = λ s k.
    let none : get_by (key_cmp c.args.key.now) c.args.self.now.groups ≡ None = search rules in
    ap (λ m. ids_at (record { groups = m }) s k) c.get_mut.follows.holds-at-none
    ∙ absent c.args.self.now c.args.key.now k s c.args.side (without_all (c.args.id ∷ [])) refl none

pub returns-then-not-is_empty-clause-ids : goal.returns-then-not-is_empty-clause-ids
returns-then-not-is_empty-clause-ids c = λ s k.
    let found : get_by (key_cmp c.args.key.now) c.args.self.now.groups ≡ Some c.in-Some.group.now = search rules in
    let there : IsSome (get_by (key_cmp c.args.key.now) c.args.self.now.groups) = subst IsSome (sym found) refl in
    let taken = c.take_few-taken in
    let wrote = c.get_mut.follows.holds taken.new.self in
    changed c.args.self.now (record { groups = c.get_mut.follows.lender taken.new.self }) c.args.key.now k taken.new.self s c.args.side (without_where taken.result.is_out c.args.id)
    ((wrote.3 there).0 k)
    (taken.ensures.ids s ∙ ap (λ o. if is_side c.args.side s then without_where taken.result.is_out c.args.id (ids_in s o) else ids_in s o) (sym found))

pub returns-clause-ids : goal.returns-clause-ids
returns-clause-ids c = λ s k.
    let found : get_by (key_cmp c.args.key.now) c.args.self.now.groups ≡ Some c.in-Some.group.now = search rules in
    let there : IsSome (get_by (key_cmp c.args.key.now) c.args.self.now.groups) = subst IsSome (sym found) refl in
    let taken = c.take_few-taken in
    let wrote = c.get_mut.follows.holds taken.new.self in
    let lent : Groups = record { groups = c.get_mut.follows.lender taken.new.self } in
    let written : get_by (key_cmp c.args.key.now) lent.groups ≡ Some taken.new.self = (wrote.3 there).1 in
    let empty : c.is_empty.result ≡ true = search rules in
    emptied lent (record { groups = c.remove.new.self }) c.args.key.now k taken.new.self s (c.remove.ensures.updates.0 k) written (c.is_empty.ensures empty s)
    ∙ changed c.args.self.now (record { groups = c.get_mut.follows.lender taken.new.self }) c.args.key.now k taken.new.self s c.args.side (without_where taken.result.is_out c.args.id)
    ((wrote.3 there).0 k)
    (taken.ensures.ids s ∙ ap (λ o. if is_side c.args.side s then without_where taken.result.is_out c.args.id (ids_in s o) else ids_in s o) (sym found))
