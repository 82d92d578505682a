use Rattle.std.proofs.Common.{rules, ◌≡◌, ◌∙◌, ◌++◌, ap, sym, subst, refl, Some, None, cond, if◌then◌else◌}
use Rattle.std.specs.Prelude.{IsSome}
use Rattle.std.proofs.lemmas.Result.{on_ok_weaker}
use Rattle.std.specs.BTreeMap.{get_by}
use Rattle.tb_value.specs.See.{datum}
use Rattle.tb_delta.specs.Keys.{ties}
use Rattle.tb_delta.specs.Groups.{ids_in, is_side, key_cmp}
use Rattle.tb_delta.proofs.Grouped.{changed}
use Rattle.tb_delta.proofs.groups.Groups.add_all.Goals as goal

pub returns-in-Some : goal.returns-in-Some
returns-in-Some c = on_ok_weaker c.extend.result (λ pushed s k.
    let found : get_by (key_cmp c.args.key) c.args.self.now.groups ≡ Some c.in-Some.group.now = search rules in
    let there : IsSome (get_by (key_cmp c.args.key) c.args.self.now.groups) = subst IsSome (sym found) refl in
    changed c.args.self.now (record { groups = c.get_mut.follows.lender c.extend.new.self }) c.args.key k c.extend.new.self s c.args.side (λ l. l ++ c.args.ids.now)
    (((c.get_mut.follows.holds c.extend.new.self).3 there).0 k)
    (pushed s ∙ ap (λ o. if is_side c.args.side s then ids_in s o ++ c.args.ids.now else ids_in s o) (sym found))) c.extend.ensures

pub returns-in_ok-insert-in-None : goal.returns-in_ok-insert-in-None
returns-in_ok-insert-in-None c = λ s k.
    let none : get_by (key_cmp c.args.key) c.args.self.now.groups ≡ None = search rules in
    changed c.args.self.now (record { groups = c.insert.new.self }) c.args.key k c.in_ok-group-in-None.group s c.args.side (λ l. l ++ c.args.ids.now)
    (c.in_ok-insert-in-None.ensures.updates.0 k ∙ ap (λ m. cond (ties (datum c.args.key.value) (datum k.value)) (Some c.in_ok-group-in-None.group) (get_by (key_cmp k) m)) c.get_mut.follows.holds-at-none)
    (c.in_ok-group-in-None.ensures s ∙ ap (λ o. if is_side c.args.side s then ids_in s o ++ c.args.ids.now else ids_in s o) (sym none))
