use Rattle.std.proofs.Common.{◌≡◌, take, map}
use Rattle.tb_value.specs.SeeKind.{part}
use Rattle.tb_frame.specs.Promise.Table.{schema_of, table_of}
use Rattle.tb_delta.proofs.making.fields_of.Given as goal

abbrev pub invariant-loop-column : goal.invariant-loop-column
invariant-loop-column l = map part l.fields.items ≡ schema_of (table_of (take l.column-index l.columns))
