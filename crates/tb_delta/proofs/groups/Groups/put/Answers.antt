use Rattle.std.proofs.Common.{rules, ◌≡◌, ◌∙◌, ◌++◌, ◌∷◌, [], ap, sym, subst, refl, Some, None, cond, if◌then◌else◌}
use Rattle.std.specs.Prelude.{IsSome}
use Rattle.std.proofs.lemmas.Result.{IfOk-weaker, on_ok_weaker, on_err_weaker}
use Rattle.std.specs.BTreeMap.{get_by}
use Rattle.tb_value.specs.See.{datum}
use Rattle.tb_delta.specs.Keys.{ties}
use Rattle.tb_delta.specs.Groups.{ids_in, is_side, key_cmp}
use Rattle.tb_delta.specs.Promise.State.{other}
use Rattle.tb_delta.proofs.Grouped.{changed, none_told, rewritten}
use Rattle.tb_delta.proofs.groups.Groups.put.Goals as goal

pub returns-in-Some-clause-ok : goal.returns-in-Some-clause-ok
returns-in-Some-clause-ok c = on_ok_weaker c.put.result (λ pushed s k.
    let found : get_by (key_cmp c.args.key.now) c.args.self.now.groups ≡ Some c.in-Some.group.now = search rules in
    let there : IsSome (get_by (key_cmp c.args.key.now) c.args.self.now.groups) = subst IsSome (sym found) refl in
    changed c.args.self.now (record { groups = c.get_mut.follows.lender c.put.new.self }) c.args.key.now k c.put.new.self s c.args.side (λ ids. ids ++ c.args.id ∷ [])
    (((c.get_mut.follows.holds c.put.new.self).3 there).0 k)
    (pushed s ∙ ap (λ o. if is_side c.args.side s then ids_in s o ++ c.args.id ∷ [] else ids_in s o) (sym found))) c.put.ensures.ok

pub returns-in-Some-clause-err : goal.returns-in-Some-clause-err
returns-in-Some-clause-err c = on_err_weaker c.put.result (λ kept s k.
    let found : get_by (key_cmp c.args.key.now) c.args.self.now.groups ≡ Some c.in-Some.group.now = search rules in
    let there : IsSome (get_by (key_cmp c.args.key.now) c.args.self.now.groups) = subst IsSome (sym found) refl in
    rewritten c.args.self.now (record { groups = c.get_mut.follows.lender c.put.new.self }) c.args.key.now k c.put.new.self s
    (((c.get_mut.follows.holds c.put.new.self).3 there).0 k)
    (kept s ∙ ap (ids_in s) (sym found))) c.put.ensures.err

pub returns-in_ok-insert-in-None-clause-ok : goal.returns-in_ok-insert-in-None-clause-ok
returns-in_ok-insert-in-None-clause-ok c = λ s k.
    let none : get_by (key_cmp c.args.key.now) c.args.self.now.groups ≡ None = search rules in
    let copied : datum c.in_ok-key-in-None.key.value ≡ datum c.args.key.now.value = c.in_ok-key-in-None.ensures in
    changed c.args.self.now (record { groups = c.insert.new.self }) c.args.key.now k c.in_ok-group-in-None.group s c.args.side (λ ids. ids ++ c.args.id ∷ [])
    (c.in_ok-insert-in-None.ensures.updates.0 k ∙ (λ i. cond (ties (copied i) (datum k.value)) (Some c.in_ok-group-in-None.group) (get_by (key_cmp k) (c.get_mut.follows.holds-at-none i))))
    (c.in_ok-group-in-None.ensures s ∙ ap (λ o. if is_side c.args.side s then ids_in s o ++ c.args.id ∷ [] else ids_in s o) (sym none))

pub returns-in-Some-clause-told : goal.returns-in-Some-clause-told
returns-in-Some-clause-told c =
    let found : get_by (key_cmp c.args.key.now) c.args.self.now.groups ≡ Some c.in-Some.group.now = search rules in
    IfOk-weaker c.put.result _ _ (λ v e. e ∙ ap (λ o. if c.args.tells then ids_in (other c.args.side) o else []) (sym found)) c.put.ensures.told

pub returns-in_ok-insert-in-None-clause-told : goal.returns-in_ok-insert-in-None-clause-told
returns-in_ok-insert-in-None-clause-told c =
    let none : get_by (key_cmp c.args.key.now) c.args.self.now.groups ≡ None = search rules in
    let empty : c.new.result.items ≡ [] = search rules in
    none_told c.args.tells c.new.result.items empty ∙ ap (λ o. if c.args.tells then ids_in (other c.args.side) o else []) (sym none)
