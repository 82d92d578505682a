use Rattle.std.proofs.Common.{◌≡◌, drop}
use Rattle.std.specs.Cmp.Lexicographic.{slice_cmp}
use Rattle.tb_rows.specs.Fields.{fields_at}
use Rattle.tb_rows.specs.Order.{value_cmp}
use Rattle.tb_rows.proofs.fields.compare_fields.Given as goal

-- the values that are left decide
abbrev pub invariant-loop-column : goal.invariant-loop-column
invariant-loop-column l =
    slice_cmp value_cmp (fields_at l.columns l.first) (fields_at l.columns l.second)
    ≡ slice_cmp value_cmp (fields_at (drop l.column-index l.columns) l.first) (fields_at (drop l.column-index l.columns) l.second)
