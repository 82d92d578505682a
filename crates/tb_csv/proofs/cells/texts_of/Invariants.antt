use Rattle.std.proofs.Common.{◌≡◌, ◌+◌, length, map, take, drop}
use Rattle.std.specs.List.{flat_map}
use Rattle.tb_value.specs.Promise.Datum.{string}
use Rattle.tb_csv.specs.declared.field_type.FieldType.TheVariants as field
use Rattle.tb_chunk.specs.Chunk.{or_null}
use Rattle.tb_csv.specs.Promise.Faults.{column_fault}
use Rattle.tb_csv.specs.Promise.Types.{cell_of}
use Rattle.tb_csv.specs.Read.{rows_in, run_column}
use Rattle.tb_csv.proofs.cells.texts_of.Given as goal

abbrev pub invariant-loop-run : goal.invariant-loop-run
invariant-loop-run l = record {
  fault : column_fault l.name field.String 1 (flat_map (run_column (length l.fields.records.now.names.items) l.fields.column) l.run-items)
      ≡ column_fault l.name field.String (l.before + 1) (flat_map (run_column (length l.fields.records.now.names.items) l.fields.column) (drop l.run-index l.run-items));
  before : l.before ≡ rows_in (take l.run-index l.run-items);
  texts : map (or_null string) l.builder.rows ≡ map (cell_of field.String) (flat_map (run_column (length l.fields.records.now.names.items) l.fields.column) (take l.run-index l.run-items));
}
