use Rattle.std.proofs.Common.{◌∙◌, ◌++◌, ◌∷◌, [], ap, sym, if◌then◌else◌}
use Rattle.std.specs.Prelude.{Result, Ok, Err, OnOk}
use Rattle.std.proofs.lemmas.Result.{IfOk-weaker, on_ok_weaker}
use Rattle.tb_value.specs.See.{datum}
use Rattle.tb_value.specs.declared.error.Side.{Side}
use Rattle.tb_delta.specs.Groups.{ids_at, is_side}
use Rattle.tb_delta.proofs.Grouped.{with_agrees, without_agrees}
use Rattle.tb_delta.proofs.steps.put_in_group.Goals as goal

-- what holds whatever is answered
on_ok_always : {T E P : Type 0} (r : Result T E) → P → OnOk r P
on_ok_always (Ok v) p = p
on_ok_always (Err e) p = tt

pub returns-then-is_grouped-clause-ok : goal.returns-then-is_grouped-clause-ok
returns-then-is_grouped-clause-ok c = on_ok_weaker c.put.result (λ put s k.
    put s k
    ∙ with_agrees (is_side c.args.side s) c.args.join_nulls (datum c.args.key.now.value) (datum k.value) (ids_at c.args.groups.now s k ++ c.args.id ∷ []) (ids_at c.args.groups.now s k) (sym c.is_grouped.ensures ∙ c.if-is_grouped.true)) c.put.ensures.ok

pub returns-else-is_grouped-clause-ok : goal.returns-else-is_grouped-clause-ok
returns-else-is_grouped-clause-ok c = on_ok_always c.copied.result (λ s k.
    without_agrees (is_side c.args.side s) c.args.join_nulls (datum c.args.key.now.value) (datum k.value) (ids_at c.args.groups.now s k ++ c.args.id ∷ []) (ids_at c.args.groups.now s k) (sym c.is_grouped.ensures ∙ c.if-is_grouped.false))

pub returns-else-is_grouped-clause-told : goal.returns-else-is_grouped-clause-told
returns-else-is_grouped-clause-told c = IfOk-weaker c.copied.result _ _ (λ v e. e ∙ ap (λ (d : Side). if c.args.tells then ids_at c.args.groups.now d c.args.key.now else []) c.other.ensures) c.copied.ensures
