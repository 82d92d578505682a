use Rattle.std.proofs.Common.{◌≡◌}
use Rattle.tb_value.specs.Promise.Pairs.{row_numbers}
use Rattle.tb_group_front.proofs.sorting.rows_by_values.Given as goal

abbrev pub invariant-loop-row : goal.invariant-loop-row
invariant-loop-row l = l.rows.items ≡ row_numbers l.row
