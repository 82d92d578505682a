use Rattle.std.proofs.Common.{◌≡◌}
use Rattle.tb_csv.specs.Numbers.{number_fields}
use Rattle.tb_csv.specs.Read.{fields_down}
use Rattle.tb_csv.proofs.field_columns.column_numbers.Given as goal

abbrev pub invariant-loop-row : goal.invariant-loop-row
invariant-loop-row g l = number_fields l.numbers ≡ fields_down l.width l.row l.column (g.R.Rows.shown l.rows)
