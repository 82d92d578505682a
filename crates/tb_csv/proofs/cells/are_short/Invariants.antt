use Rattle.std.proofs.Common.{◌≡◌, take, true}
use Rattle.std.specs.List.{list_all}
use Rattle.tb_csv.specs.Fields.{part_fields}
use Rattle.tb_csv.specs.Promise.Types.{is_of}
use Rattle.tb_csv.specs.declared.field_type.FieldType.TheVariants as field
use Rattle.tb_csv.proofs.cells.are_short.Given as goal

abbrev pub invariant-loop-row : goal.invariant-loop-row
invariant-loop-row l = list_all (is_of field.String) (take l.row (part_fields l.part)) ≡ true
