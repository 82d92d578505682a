use Rattle.std.proofs.Common.{◌≡◌, if◌then◌else◌}
use Rattle.tb_value.specs.declared.error.Side.{Side}
use Rattle.tb_value.specs.See.{datum}
use Rattle.tb_delta.specs.Groups.{ids_at, is_side}
use Rattle.tb_delta.specs.TakenUp.{led}
use Rattle.tb_delta.specs.declared.key.RowKey.{RowKey}
use Rattle.tb_chunk.specs.Promise.Col.{values}
use Rattle.tb_delta.proofs.taking_up.add_column.Given as goal

abbrev pub invariant-loop-group : goal.invariant-loop-group
invariant-loop-group l = (s : Side) (k : RowKey)
    → ids_at l.groups s k ≡ (if is_side l.side s then led l.join_nulls (values l.column) l.rows.numbers.items l.group (datum k.value) else ids_at l.initial.groups s k)
