use Rattle.std.proofs.Common.{◌&&◌}
use Rattle.tb_value.specs.See.{datum}
use Rattle.tb_value.specs.declared.error.Side.TheVariants as side
use Rattle.tb_delta.specs.Groups.{ids_at, is_side, ties}
use Rattle.tb_delta.proofs.LateGroups.{same_entries, settles_first}
use Rattle.tb_delta.proofs.LateIds.{fewer_ascend}
use Rattle.tb_delta.proofs.late.LateGroups.settle_first.Goals as goal

pub returns-in-Some-clause-keeps : goal.returns-in-Some-clause-keeps
returns-in-Some-clause-keeps c =
    settles_first c.args.self.now c.take_list_out.new.self c.take_list_out-in-Some.new.self (record { groups = c.pop_first.new.self }) c.in-Some.key c.in-Some.group
    c.into_lists-left.result.0.items c.into_lists-left.result.1.items c.into_lists-left.ensures.left c.into_lists-left.ensures.right
    c.requires c.in-Some.ensures.updates.0 c.in-Some.ensures.value c.take_list_out.ensures c.take_list_out-in-Some.ensures

pub take_list_out-requires-in-Some : goal.take_list_out-requires-in-Some
take_list_out-requires-in-Some c = λ s k.
    fewer_ascend (is_side side.Left s && ties (datum c.in-Some.key.value) (datum k.value)) c.into_lists-left.result.0.items
    (ids_at c.args.self.now.groups s k) (ids_at c.take_list_out.new.self s k) (c.take_list_out.ensures s k) (c.requires s k)

pub returns-in_default-clause-keeps : goal.returns-in_default-clause-keeps
returns-in_default-clause-keeps c = same_entries c.args.self.now (record { groups = c.pop_first.new.self }) c.requires c.in_default.ensures.unchanged
