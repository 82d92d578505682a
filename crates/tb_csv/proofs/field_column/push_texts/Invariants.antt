use Rattle.std.proofs.Common.{◌≡◌, ◌++◌, take}
use Rattle.csv.specs.Records.{fields_of}
use Rattle.tb_csv.specs.Read.{bare_fields, held_fields}
use Rattle.tb_csv.proofs.field_column.push_texts.Given as goal

abbrev pub invariant-loop-row : goal.invariant-loop-row
invariant-loop-row l = bare_fields (fields_of l.texts) ≡ bare_fields (fields_of l.initial.texts) ++ take l.row (held_fields l.column)
