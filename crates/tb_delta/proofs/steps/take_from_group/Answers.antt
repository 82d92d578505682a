use Rattle.std.proofs.Common.{◌∙◌, ◌&&◌, List, ℕ, ap, sym, if◌then◌else◌}
use Rattle.tb_value.specs.See.{datum}
use Rattle.tb_delta.specs.Groups.{ids_at, is_side, ties, without}
use Rattle.tb_delta.proofs.Gone.{one_gone}
use Rattle.tb_delta.proofs.Grouped.{with_agrees, without_agrees}
use Rattle.tb_delta.proofs.steps.take_from_group.Goals as goal

pub returns-then-is_grouped : goal.returns-then-is_grouped
returns-then-is_grouped c = λ s k.
    let before : List ℕ = ids_at c.args.groups.now s k in
    let key = datum c.args.key.now.value in
    c.take_out.ensures s k
    ∙ ap (λ (l : List ℕ). if is_side c.args.side s && ties key (datum k.value) then l else before) (sym (one_gone c.args.id before))
    ∙ with_agrees (is_side c.args.side s) c.args.join_nulls key (datum k.value) (without c.args.id before) before (sym c.is_grouped.ensures ∙ c.if-is_grouped.true)

pub returns-else-is_grouped : goal.returns-else-is_grouped
returns-else-is_grouped c = λ s k.
    let before : List ℕ = ids_at c.args.groups.now s k in
    without_agrees (is_side c.args.side s) c.args.join_nulls (datum c.args.key.now.value) (datum k.value) (without c.args.id before) before (sym c.is_grouped.ensures ∙ c.if-is_grouped.false)
