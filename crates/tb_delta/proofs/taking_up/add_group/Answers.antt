use Rattle.std.proofs.Common.{◌∙◌, ◌<◌, ◌++◌, ◌&&◌, List, ℕ, get_or, length, sym, subst, if◌then◌else◌}
use Rattle.std.proofs.lemmas.Result.{on_ok_weaker}
use Rattle.tb_value.specs.Promise.Same.{agrees}
use Rattle.tb_value.specs.See.{datum}
use Rattle.tb_chunk.specs.Promise.Col.{values}
use Rattle.tb_numbered.specs.Numbered.{numbered_rows}
use Rattle.tb_delta.specs.Groups.{ids_at, is_side}
use Rattle.tb_delta.specs.TakenUp.{value_at}
use Rattle.tb_delta.proofs.Grouped.{with_agrees}
use Rattle.tb_delta.proofs.TakenUp.{first_low}
use Rattle.tb_delta.proofs.taking_up.add_group.Goals as goal

pub key_at-requires : goal.key_at-requires
key_at-requires c =
    subst (λ (l : List ℕ). get_or l c.args.group 0 < length (values c.args.column.now)) (sym c.firsts.ensures) (first_low (values c.args.column.now) c.args.rows.now c.requires.rows c.args.group 0 c.requires.group)

pub returns-then-is_grouped : goal.returns-then-is_grouped
returns-then-is_grouped c = on_ok_weaker c.add_all.result (λ put s k.
    put s k
    ∙ with_agrees (is_side c.args.side s) c.args.join_nulls (datum c.in_ok-key.key.value) (datum k.value) (ids_at c.args.groups.now s k ++ c.rows.result.now) (ids_at c.args.groups.now s k) (sym c.is_grouped.ensures ∙ c.if-is_grouped.true)
    ∙ (λ i. if is_side c.args.side s && agrees c.args.join_nulls (c.in_ok-key.ensures i) (datum k.value) then ids_at c.args.groups.now s k ++ c.rows.ensures i else ids_at c.args.groups.now s k)
    ∙ (λ i. if is_side c.args.side s && agrees c.args.join_nulls (value_at (values c.args.column.now) (get_or (c.firsts.ensures i) c.args.group 0)) (datum k.value) then ids_at c.args.groups.now s k ++ numbered_rows c.args.rows.now.numbers.items c.args.group else ids_at c.args.groups.now s k)) c.add_all.ensures
