use Rattle.std.proofs.Common.{◌≡◌, [], arith, subst}
use Rattle.tb_value.specs.declared.error.Side.{Side}
use Rattle.tb_value.specs.See.{datum}
use Rattle.tb_chunk.specs.Promise.Col.{values}
use Rattle.tb_delta.specs.Groups.{ids_at, is_side}
use Rattle.tb_delta.proofs.Grouped.{side_is}
use Rattle.tb_delta.proofs.TakenUp.{group_first, group_last, group_next}
use Rattle.tb_delta.proofs.taking_up.add_column.Goals as goal

pub loop-group-init : goal.loop-group-init
loop-group-init c = λ s k.
    group_first (values c.args.column.now) c.in_ok-rows.rows c.in_ok-rows.ensures c.args.join_nulls (is_side c.args.side s) (ids_at c.args.groups.now s k) (datum k.value)
    (λ e. subst (λ (d : Side). ids_at c.args.groups.now d k ≡ []) (side_is c.args.side s e) (c.requires k))

pub loop-group-preserved : goal.loop-group-preserved
loop-group-preserved c = λ s k.
    group_next (values c.args.column.now) c.in_ok-rows.rows c.in_ok-rows.ensures c.args.join_nulls c.loop-group.group (omega (arith, c.loop-group-test.true, c.len-group-end.ensures)) (datum k.value)
    (is_side c.args.side s) (ids_at c.add_group.new.groups s k) (ids_at c.loop-group.groups s k) (ids_at c.args.groups.now s k)
    (c.in_ok-add_group.ensures s k) (c.loop-group.invariant s k)

pub returns : goal.returns
returns c = λ s k.
    group_last (values c.args.column.now) c.in_ok-rows.rows c.in_ok-rows.ensures c.args.join_nulls c.loop-group.group (datum k.value) (omega (arith, c.loop-group.auto.group-end, c.loop-group-test.false, c.len-group-end.ensures))
    (is_side c.args.side s) (ids_at c.loop-group.groups s k) (ids_at c.args.groups.now s k) (c.loop-group.invariant s k)
