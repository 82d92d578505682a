use Rattle.std.proofs.Common.{◌≡◌, ◌+◌, ◌++◌, map, take, drop}
use Rattle.tb_value.specs.Promise.Datum.{string}
use Rattle.tb_chunk.specs.Chunk.{or_null}
use Rattle.tb_csv.specs.Promise.Faults.{column_fault}
use Rattle.tb_csv.specs.Fields.{part_fields}
use Rattle.tb_csv.specs.Promise.Types.{cell_of}
use Rattle.tb_csv.specs.declared.field_type.FieldType.TheVariants as field
use Rattle.tb_csv.proofs.cells.push_texts.Given as goal

abbrev pub invariant-loop-row : goal.invariant-loop-row
invariant-loop-row l = record {
  fault : column_fault l.name field.String (l.before + 1) (part_fields l.part) ≡ column_fault l.name field.String ((l.before + l.row) + 1) (drop l.row (part_fields l.part));
  texts : map (or_null string) l.builder.rows ≡ map (or_null string) l.initial.builder.rows ++ map (cell_of field.String) (take l.row (part_fields l.part));
}
