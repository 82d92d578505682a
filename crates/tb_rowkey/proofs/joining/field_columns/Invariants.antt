use Rattle.std.proofs.Common.{◌≡◌, take, map}
use Rattle.tb_chunk.specs.Lent.{lent_columns}
use Rattle.tb_rowkey.specs.FieldColumns.{typed_values}
use Rattle.tb_rowkey.proofs.joining.field_columns.Given as goal

abbrev pub invariant-loop-place : goal.invariant-loop-place
invariant-loop-place l = map typed_values l.fields.items ≡ map typed_values (lent_columns (take l.place l.columns))
