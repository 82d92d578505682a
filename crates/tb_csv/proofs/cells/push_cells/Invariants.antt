use Rattle.std.proofs.Common.{◌≡◌, ◌+◌, ◌++◌, map, take, drop}
use Rattle.std.specs.List.{All}
use Rattle.tb_value.specs.Promise.Typed.{HasType}
use Rattle.tb_chunk.specs.Chunk.{or_null}
use Rattle.tb_csv.specs.Promise.Faults.{column_fault}
use Rattle.tb_csv.specs.Fields.{part_fields}
use Rattle.tb_csv.specs.Promise.Types.{cell_of, kind_at}
use Rattle.tb_csv.proofs.cells.push_cells.Given as goal

abbrev pub invariant-loop-row : goal.invariant-loop-row
invariant-loop-row g l = record {
  fault : column_fault l.name l.field_type (l.before + 1) (part_fields l.part) ≡ column_fault l.name l.field_type ((l.before + l.row) + 1) (drop l.row (part_fields l.part));
  cells : map (or_null g.N.Cell.shows) l.cells ≡ map (or_null g.N.Cell.shows) l.initial.cells ++ map (cell_of l.field_type) (take l.row (part_fields l.part));
  typed : All (HasType (kind_at l.field_type)) (map (or_null g.N.Cell.shows) l.cells);
}
