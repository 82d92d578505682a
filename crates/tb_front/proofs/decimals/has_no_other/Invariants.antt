use Rattle.std.proofs.Common.{◌≡◌, drop}
use Rattle.std.specs.Prelude.{◌||◌}
use Rattle.std.specs.List.{list_all}
use Rattle.tb_chunk.specs.Promise.Col.{values}
use Rattle.tb_front.specs.Promise.Decimals.{is_blank, is_decimal_value}
use Rattle.tb_front.proofs.decimals.has_no_other.Given as goal

-- the values that are left decide
abbrev pub invariant-loop-row : goal.invariant-loop-row
invariant-loop-row l =
    list_all (λ v. is_blank v || is_decimal_value v) (values l.column) ≡ list_all (λ v. is_blank v || is_decimal_value v) (drop l.row (values l.column))
