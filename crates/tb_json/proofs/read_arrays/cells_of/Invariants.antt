use Rattle.std.proofs.Common.{map}
use Rattle.std.specs.List.{All}
use Rattle.tb_tree.specs.View.{view}
use Rattle.tb_value.specs.Promise.Typed.{HasType}
use Rattle.tb_chunk.specs.Chunk.{or_null}
use Rattle.tb_value.specs.SeeKind.{kind_of}
use Rattle.tb_json.specs.Promise.Cells.{cell_in}
use Rattle.tb_json.proofs.LentValues.{ItemsWalk}
use Rattle.tb_json.proofs.read_arrays.cells_of.Given as goal

abbrev pub invariant-loop-i : goal.invariant-loop-i
invariant-loop-i g l = record {
  walked : ItemsWalk (cell_in (kind_of l.dtype)) l.items (map (or_null g.N.Cell.shows) l.cells) l.i;
  typed : All (HasType (kind_of l.dtype)) (map (or_null g.N.Cell.shows) l.cells);
}
