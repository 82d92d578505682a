use Rattle.std.proofs.Common.{◌≡◌, ◌+◌, length, map, take, drop}
use Rattle.std.specs.List.{All, flat_map}
use Rattle.tb_value.specs.Promise.Typed.{HasType}
use Rattle.tb_chunk.specs.Chunk.{or_null}
use Rattle.tb_csv.specs.Promise.Faults.{column_fault}
use Rattle.tb_csv.specs.Promise.Types.{cell_of, kind_at}
use Rattle.tb_csv.specs.Read.{rows_in, run_column}
use Rattle.tb_csv.proofs.cells.cells_of.Given as goal

abbrev pub invariant-loop-run : goal.invariant-loop-run
invariant-loop-run g l = record {
  fault : column_fault l.name l.field_type 1 (flat_map (run_column (length l.fields.records.now.names.items) l.fields.column) l.run-items)
      ≡ column_fault l.name l.field_type (l.before + 1) (flat_map (run_column (length l.fields.records.now.names.items) l.fields.column) (drop l.run-index l.run-items));
  before : l.before ≡ rows_in (take l.run-index l.run-items);
  cells : map (or_null g.N.Cell.shows) l.cells ≡ map (cell_of l.field_type) (flat_map (run_column (length l.fields.records.now.names.items) l.fields.column) (take l.run-index l.run-items));
  typed : All (HasType (kind_at l.field_type)) (map (or_null g.N.Cell.shows) l.cells);
}
