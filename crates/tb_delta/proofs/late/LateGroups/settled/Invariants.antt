use Rattle.std.proofs.Common.{◌≡◌, ◌+◌}
use Rattle.tb_value.specs.declared.error.Side.{Side}
use Rattle.tb_delta.specs.Groups.{AreAscending}
use Rattle.tb_delta.specs.Late.{count_gone, ids_left}
use Rattle.tb_delta.specs.declared.key.RowKey.{RowKey}
use Rattle.tb_delta.proofs.late.LateGroups.settled.Given as goal

abbrev pub invariant-loop : goal.invariant-loop
invariant-loop l =
    AreAscending l.late.groups
    × (count_gone l.late + l.counter ≡ count_gone l.fn.self)
    × ((s : Side) (k : RowKey) → ids_left l.late s k ≡ ids_left l.fn.self s k)
