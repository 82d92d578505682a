use Rattle.std.proofs.Common.{◌≡◌, drop}
use Rattle.std.specs.List.{list_any}
use Rattle.tb_chunk.specs.Promise.Col.{values}
use Rattle.tb_front.specs.Promise.Decimals.{is_decimal_value}
use Rattle.tb_front.proofs.decimals.has_a_decimal.Given as goal

-- the values that are left decide
abbrev pub invariant-loop-row : goal.invariant-loop-row
invariant-loop-row l = list_any is_decimal_value (values l.column) ≡ list_any is_decimal_value (drop l.row (values l.column))
